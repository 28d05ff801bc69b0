-- The ranges of operations are those of their lines.
use Rattle.record_text.proofs.Common.{ℕ, List, [], ◌∷◌, codes, refl, sym, subst, arith, GREATEST_ID, GREATEST_RANK, GREATEST_DATA, MOST_LISTED, RecordOp}
use Rattle.record_text.proofs.Common.{record_language}
use Rattle.script_reader.proofs.Common.{form, ranges_of, IsOperationIn, AreNumbersIn}
use Rattle.record_text.specs.Ranges.{IsRecordOp}
use Rattle.record_text.specs.declared.script.RecordOp.TheVariants as op

-- an operation whose numbers are in their ranges has a form, and they are in its ranges
pub operation_in : (sizes : List ℕ) (o : RecordOp) → IsRecordOp o → IsOperationIn record_language sizes o
operation_in sizes (op.Put id rank content) h = record {
  kind = form (codes "put") ((1, GREATEST_ID) ∷ (1, GREATEST_RANK) ∷ (0, GREATEST_DATA) ∷ []);
  kind_is = refl;
  within = (h.0.0, h.0.1, omega (arith, h.0.1), (h.1.0, h.1.1, omega (arith, h.1.1), (omega arith, h.2, omega (arith, h.2), tt)));
}
operation_in sizes (op.Remove id) h = record {
  kind = form (codes "drop") ((1, GREATEST_ID) ∷ []);
  kind_is = refl;
  within = (h.0, h.1, omega (arith, h.1), tt);
}
operation_in sizes (op.Find id) h = record {
  kind = form (codes "get") ((1, GREATEST_ID) ∷ []);
  kind_is = refl;
  within = (h.0, h.1, omega (arith, h.1), tt);
}
operation_in sizes (op.Ranked rank most) h = record {
  kind = form (codes "from") ((1, GREATEST_RANK) ∷ (1, MOST_LISTED) ∷ []);
  kind_is = refl;
  within = (h.0.0, h.0.1, omega (arith, h.0.1), (h.1.0, h.1.1, omega (arith, h.1.1), tt));
}

-- and the other way round
pub operation_is : (sizes : List ℕ) (o : RecordOp) → IsOperationIn record_language sizes o → IsRecordOp o
operation_is sizes (op.Put id rank content) h =
    let w : AreNumbersIn ((1, GREATEST_ID) ∷ (1, GREATEST_RANK) ∷ (0, GREATEST_DATA) ∷ []) (id ∷ rank ∷ content ∷ []) =
    subst (λ kind. AreNumbersIn (ranges_of kind) (id ∷ rank ∷ content ∷ [])) (sym h.kind_is) h.within in
    ((w.0, w.1), (w.3.0, w.3.1), w.3.3.1)
operation_is sizes (op.Remove id) h =
    let w : AreNumbersIn ((1, GREATEST_ID) ∷ []) (id ∷ []) = subst (λ kind. AreNumbersIn (ranges_of kind) (id ∷ [])) (sym h.kind_is) h.within in
    (w.0, w.1)
operation_is sizes (op.Find id) h =
    let w : AreNumbersIn ((1, GREATEST_ID) ∷ []) (id ∷ []) = subst (λ kind. AreNumbersIn (ranges_of kind) (id ∷ [])) (sym h.kind_is) h.within in
    (w.0, w.1)
operation_is sizes (op.Ranked rank most) h =
    let w : AreNumbersIn ((1, GREATEST_RANK) ∷ (1, MOST_LISTED) ∷ []) (rank ∷ most ∷ []) =
    subst (λ kind. AreNumbersIn (ranges_of kind) (rank ∷ most ∷ [])) (sym h.kind_is) h.within in
    ((w.0, w.1), (w.3.0, w.3.1))
