-- The operations of a script one after another on words that stand for records, and what they come to together.
use Rattle.txn_records.proofs.Common.{◌≡◌, ℕ, Bool, true, false, if◌then◌else◌, List, Option, Some, None, is_some, refl, sym, ap, ◌∙◌, Records, ids_from}
use Rattle.txn_records.proofs.Common.{is_store_full, New, Old, Full, Tells, TellsAndChanges, remove_absent, RecordShape, Stands, rank_in, put_answer}
use Rattle.txn_records.proofs.Common.{PutsRecord}
use Rattle.record_text.proofs.Common.{record_step_of, with_record}
use Rattle.books_report.proofs.Common.{Gives}
use Rattle.std.proofs.Common.{not, ◌&&◌}
use Rattle.books_report.specs.Stores.Interpreter.{Step as step}
use Rattle.txn_records.specs.Operating.{MeetsStep}
use Rattle.std.specs.FinMap as finite
use Rattle.record_text.specs.declared.script.RecordOp.TheVariants as op
use Rattle.record_text.specs.declared.reply.RecordValue.TheVariants as value
use Rattle.books_report.specs.declared.stores.outcome.Outcome.TheVariants as outcome

-- what the step of a put comes to, by what was answered
put_new_step : (blocks id rank content : ℕ) (records : Records) (o : Option (ℕ × ℕ)) → finite.get records id ≡ o
    → New ≡ put_answer (rank_in o) (is_store_full blocks records)
    → record_step_of blocks (op.Put id rank content) records ≡ Gives value.New (finite.insert records id (rank, content))
put_new_step blocks id rank content records (Some stored) is told = absurd (cc)
put_new_step blocks id rank content records None is told = at (is_store_full blocks records) refl
  where
    at : (full : Bool) → is_store_full blocks records ≡ full
        → record_step_of blocks (op.Put id rank content) records ≡ Gives value.New (finite.insert records id (rank, content))
    at true e = let no : New ≡ Full = told ∙ ap (put_answer None) e in absurd (cc)
    at false e = ap (λ (found : Option (ℕ × ℕ)). if not (is_some found) && is_store_full blocks records then step.Full
        else Gives (if is_some found then value.Old else value.New) (finite.insert records id (rank, content))) is
        ∙ ap (λ full. if full then step.Full else Gives value.New (finite.insert records id (rank, content))) e

put_old_step : (blocks id rank content was : ℕ) (records : Records) (o : Option (ℕ × ℕ)) → finite.get records id ≡ o
    → Old was ≡ put_answer (rank_in o) (is_store_full blocks records)
    → record_step_of blocks (op.Put id rank content) records ≡ Gives value.Old (finite.insert records id (rank, content))
put_old_step blocks id rank content was records (Some stored) is told =
    ap (λ (found : Option (ℕ × ℕ)). if not (is_some found) && is_store_full blocks records then step.Full
    else Gives (if is_some found then value.Old else value.New) (finite.insert records id (rank, content))) is
put_old_step blocks id rank content was records None is told = at (is_store_full blocks records) refl
  where
    at : (full : Bool) → is_store_full blocks records ≡ full
        → record_step_of blocks (op.Put id rank content) records ≡ Gives value.Old (finite.insert records id (rank, content))
    at true e = let no : Old was ≡ Full = told ∙ ap (put_answer None) e in absurd (cc)
    at false e = let no : Old was ≡ New = told ∙ ap (put_answer None) e in absurd (cc)

module _ (shape : RecordShape) (x y : List ℕ) where
  pub new_steps : (id rank content : ℕ) → PutsRecord shape id rank content New x y → MeetsStep shape (op.Put id rank content) (outcome.Gives value.New) x y
  new_steps id rank content p = record {
    comes = λ records stand. (
      finite.insert records id (rank, content),
      put_new_step shape.blocks id rank content records (finite.get records id) refl (p.answer records stand),
      p.left records stand,
    );
  }

  pub old_steps : (id rank content was : ℕ) → PutsRecord shape id rank content (Old was) x y
      → MeetsStep shape (op.Put id rank content) (outcome.Gives value.Old) x y
  old_steps id rank content was p = record {
    comes = λ records stand. (
      finite.insert records id (rank, content),
      put_old_step shape.blocks id rank content was records (finite.get records id) refl (p.answer records stand),
      p.left records stand,
    );
  }

  pub gone_steps : (id : ℕ) → TellsAndChanges (Stands shape) (λ records. finite.contains_key records id) (λ records. finite.remove records id) true x y
      → MeetsStep shape (op.Remove id) (outcome.Gives value.Gone) x y
  gone_steps id t = record {
    comes = λ records stand. (finite.remove records id, at records (finite.get records id) refl (t.told records stand), t.left records stand);
  }
    where
      at : (records : Records) (o : Option (ℕ × ℕ)) → finite.get records id ≡ o → true ≡ is_some o
          → record_step_of shape.blocks (op.Remove id) records ≡ Gives value.Gone (finite.remove records id)
      at records None is there = absurd (cc)
      at records (Some stored) is there = ap (λ found. with_record found (λ stored. Gives value.Gone (finite.remove records id))) is

  pub absent_steps : (id : ℕ) → TellsAndChanges (Stands shape) (λ records. finite.contains_key records id) (λ records. finite.remove records id) false x y
      → MeetsStep shape (op.Remove id) outcome.Absent x y
  absent_steps id t = record {
    comes = λ records stand. let none = absent (finite.get records id) (t.told records stand) in (
      records,
      ap (λ found. with_record found (λ stored. Gives value.Gone (finite.remove records id))) none,
      rw (remove_absent records id none) at (t.left records stand),
    );
  }
    where
      absent : (o : Option (ℕ × ℕ)) → false ≡ is_some o → o ≡ None
      absent None there = refl
      absent (Some stored) there = absurd (cc)

  pub found_steps : (id rank content : ℕ) → Tells (Stands shape) (λ records. finite.get records id) (Some (rank, content)) x y
      → MeetsStep shape (op.Find id) (outcome.Gives (value.Found rank content)) x y
  found_steps id rank content t = record {
    comes = λ records stand. (
      records,
      ap (λ found. with_record found (λ stored. Gives (value.Found stored.0 stored.1) records)) (sym (t.told records stand)),
      rw t.same stand,
    );
  }

  pub lacks_steps : (id : ℕ) → Tells (Stands shape) (λ records. finite.get records id) None x y → MeetsStep shape (op.Find id) outcome.Absent x y
  lacks_steps id t = record {
    comes = λ records stand. (
      records,
      ap (λ found. with_record found (λ stored. Gives (value.Found stored.0 stored.1) records)) (sym (t.told records stand)),
      rw t.same stand,
    );
  }

  pub list_steps : (rank most : ℕ) (ids : List ℕ) → Tells (Stands shape) (ids_from rank most) ids x y
      → MeetsStep shape (op.Ranked rank most) (outcome.Gives (value.Ids ids)) x y
  list_steps rank most ids t = record {
    comes = λ records stand. (
      records,
      ap (λ l. Gives (value.Ids l) records) (sym (t.told records stand)),
      rw t.same stand,
    );
  }
