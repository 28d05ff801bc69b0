-- The ranges of operations are those of their lines, and what a text gives is an input.
use Rattle.order_text.proofs.Common.{ℕ, ◌≤◌, List, [], ◌∷◌, codes, refl, sym, subst, arith, GREATEST_ORDER, OrderOp, IsLimitOrder, IsOrderOp, IsOrderScript}
use Rattle.order_text.proofs.Common.{order_language, IsBookInput, CallerOf}
use Rattle.script_reader.proofs.Common.{form, ranges_of, AreCallers, AreNumbersIn, AreSizes, IsOperationIn, IsScriptIn}
use Rattle.books_model.specs.declared.limits.TheConstants.{MOST_INSTRUMENTS}
use Rattle.order_text.specs.Language.{limit_ranges}
use Rattle.order_text.specs.declared.script.OrderOp.TheVariants as op

-- the numbers of an order
limits_in : (instruments instrument price quantity : ℕ) → instruments ≤ MOST_INSTRUMENTS → IsLimitOrder instruments instrument price quantity
    → AreNumbersIn (limit_ranges instruments) (instrument ∷ price ∷ quantity ∷ [])
limits_in instruments instrument price quantity few h = (
  h.instrument_is.0,
  h.instrument_is.1,
  omega (arith, h.instrument_is.1),
  (h.price_is.0, h.price_is.1, omega (arith, h.price_is.1), (h.quantity_is.0, h.quantity_is.1, omega (arith, h.quantity_is.1), tt)),
)

limits_are : (instruments instrument price quantity : ℕ) → AreNumbersIn (limit_ranges instruments) (instrument ∷ price ∷ quantity ∷ [])
    → IsLimitOrder instruments instrument price quantity
limits_are instruments instrument price quantity w =
    record { instrument_is = (w.0, w.1); price_is = (w.3.0, w.3.1); quantity_is = (w.3.3.0, w.3.3.1) }

-- an operation whose numbers are in their ranges has a form, and they are in its ranges
pub operation_in : (blocks instruments : ℕ) (o : OrderOp) → instruments ≤ MOST_INSTRUMENTS → IsOrderOp instruments o
    → IsOperationIn order_language (blocks ∷ instruments ∷ []) o
operation_in blocks instruments (op.Buy instrument price quantity) few h = record {
  kind = form (codes "buy") (limit_ranges instruments);
  kind_is = refl;
  within = limits_in instruments instrument price quantity few h;
}
operation_in blocks instruments (op.Sell instrument price quantity) few h = record {
  kind = form (codes "sell") (limit_ranges instruments);
  kind_is = refl;
  within = limits_in instruments instrument price quantity few h;
}
operation_in blocks instruments (op.Cancel number) few h = record {
  kind = form (codes "cancel") ((1, GREATEST_ORDER) ∷ []);
  kind_is = refl;
  within = (h.0, h.1, omega (arith, h.1), tt);
}
operation_in blocks instruments (op.Best instrument) few h = record {
  kind = form (codes "best") ((1, instruments) ∷ []);
  kind_is = refl;
  within = (h.0, h.1, omega (arith, h.1), tt);
}

-- and the other way round
pub operation_is : (blocks instruments : ℕ) (o : OrderOp) → IsOperationIn order_language (blocks ∷ instruments ∷ []) o → IsOrderOp instruments o
operation_is blocks instruments (op.Buy instrument price quantity) h = limits_are instruments instrument price quantity
    (subst (λ kind. AreNumbersIn (ranges_of kind) (instrument ∷ price ∷ quantity ∷ [])) (sym h.kind_is) h.within)
operation_is blocks instruments (op.Sell instrument price quantity) h = limits_are instruments instrument price quantity
    (subst (λ kind. AreNumbersIn (ranges_of kind) (instrument ∷ price ∷ quantity ∷ [])) (sym h.kind_is) h.within)
operation_is blocks instruments (op.Cancel number) h =
    let w : AreNumbersIn ((1, GREATEST_ORDER) ∷ []) (number ∷ []) = subst (λ kind. AreNumbersIn (ranges_of kind) (number ∷ [])) (sym h.kind_is) h.within in
    (w.0, w.1)
operation_is blocks instruments (op.Best instrument) h =
    let w : AreNumbersIn ((1, instruments) ∷ []) (instrument ∷ []) = subst (λ kind. AreNumbersIn (ranges_of kind) (instrument ∷ [])) (sym h.kind_is) h.within in
    (w.0, w.1)

-- so the scripts of a text are scripts for a book with its instruments
script_is : (blocks instruments : ℕ) (script : List OrderOp) → IsScriptIn order_language (blocks ∷ instruments ∷ []) script
    → IsOrderScript instruments script
script_is blocks instruments script h =
    record { few = h.few; each = λ k d lt. operation_is blocks instruments _ (h.each k d lt) }

pub input_is : (blocks instruments : ℕ) (callers : List (CallerOf (List OrderOp))) → AreSizes order_language (blocks ∷ instruments ∷ [])
    → AreCallers (IsScriptIn order_language (blocks ∷ instruments ∷ [])) callers
    → IsBookInput (record { blocks = blocks; instruments = instruments; callers = callers })
input_is blocks instruments callers sized h = record {
  blocks = (sized.0, sized.1);
  instruments = (sized.3.0, sized.3.1);
  callers = record {
    few = h.few;
    few_scripts = h.few_scripts;
    names = h.names;
    names_differ = h.names_differ;
    scripts = λ k d lt j e within. script_is blocks instruments _ (h.scripts k d lt j e within);
    some_scripts = h.some_scripts;
  };
}
