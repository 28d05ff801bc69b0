-- Records that have their blocks have them after every script.
use Rattle.record_text.proofs.Common.{◌≡◌, ℕ, ◌≤◌, Bool, true, false, not, ◌&&◌, List, Option, Some, None, if◌then◌else◌, refl, arith, Gives, Full, RecordOp}
use Rattle.record_text.proofs.Common.{RecordValue, Records, blocks_of, is_store_full, record_step_of, with_record}
use Rattle.books_report.proofs.Common.{Step}
use Rattle.books_report.proofs.AnyStore.Kept.{StepKeeps, script_keeps}
use Rattle.record_text.specs.Interpreter.{record_outcome_of}
use Rattle.record_text.proofs.Puts.{put_fits}
use Rattle.record_text.proofs.Removals.{no_more}
use Rattle.std.specs.FinMap as finite
use Rattle.record_text.specs.declared.script.RecordOp.TheVariants as op
use Rattle.record_text.specs.declared.reply.RecordValue.TheVariants as value

module _ (blocks : ℕ) where
  -- the records that a step leaves, if it leaves any, have their blocks
  abbrev StepFits : Step RecordValue Records → Type 0
  StepFits = StepKeeps (λ records. blocks_of records ≤ blocks)

  of_put : (b : Bool) (id rank content : ℕ) (records : Records) → (not (finite.contains_key records id) && is_store_full blocks records) ≡ b
      → (v : RecordValue) → blocks_of records ≤ blocks
      → StepFits (if b then Full else Gives v (finite.insert records id (rank, content)))
  of_put true id rank content records is v enough = tt
  of_put false id rank content records is v enough = put_fits (record { blocks = blocks; records = records }) id rank content is enough

  of_removal : (found : Option (ℕ × ℕ)) (id : ℕ) (records : Records) → blocks_of records ≤ blocks
      → StepFits (with_record found (λ stored. Gives value.Gone (finite.remove records id)))
  of_removal None id records enough = tt
  of_removal (Some stored) id records enough = omega (arith, no_more records id, enough)

  of_look : (found : Option (ℕ × ℕ)) (records : Records) → blocks_of records ≤ blocks
      → StepFits (with_record found (λ stored. Gives (value.Found stored.0 stored.1) records))
  of_look None records enough = tt
  of_look (Some stored) records enough = enough

  step_fits : (o : RecordOp) (records : Records) → blocks_of records ≤ blocks → StepFits (record_step_of blocks o records)
  step_fits (op.Put id rank content) records enough =
      of_put (not (finite.contains_key records id) && is_store_full blocks records) id rank content records refl
      (if finite.contains_key records id then value.Old else value.New) enough
  step_fits (op.Remove id) records enough = of_removal (finite.get records id) id records enough
  step_fits (op.Find id) records enough = of_look (finite.get records id) records enough
  step_fits (op.Ranked rank most) records enough = enough

pub room_after : (script : List RecordOp) (records : Records) (blocks : ℕ) → blocks_of records ≤ blocks
    → blocks_of (record_outcome_of script records blocks).1 ≤ blocks
room_after script records blocks enough =
    script_keeps (λ records. blocks_of records ≤ blocks) (record_step_of blocks) (λ _. Unit {0}) (λ o records fit. step_fits blocks o records) script records
    (λ i d within. tt) enough
