-- Deques are made, callers are dealt to them in turn, and passes are handed out.
use Rattle.worker_pool.proofs.Common.{◌≡◌, ℕ, ◌+◌, ◌-◌, ◌%◌, ◌<◌, ◌≤◌, ◌==◌, if◌then◌else◌, All, List, [], ◌∷◌, ◌++◌, set, length, get_or, refl, sym, ap, ◌∙◌}
use Rattle.worker_pool.proofs.Common.{subst, arith, length-append, dite, ℕ_discrete, Stealer, Pass, view, IsPassOf, SameWorker, worker_deque, worker_view, Deal}
use Rattle.worker_pool.proofs.Common.{ALL_PARTS, times, deal, AreShown, AreStill, HaveLess, IsNewRow, length-set, get_or-set_other, get_or-set_same}
use Rattle.worker_pool.proofs.Common.{get_or_append_left, get_or_default, get_or_push}
use Rattle.crossbeam_deque.specs.declared.handles.Worker.{Worker}
use Rattle.worker_pool.specs.Inner.Dealing.{HasLess, IsNew, IsShown}
use Rattle.worker_pool.specs.Inner.Ends.{HasOver}
use Rattle.worker_pool.proofs.Places.{related_push}
use Rattle.worker_pool.proofs.Steps.{times_append}

-- 1 if the two are the same, and else 0
abbrev pub one_at : ℕ → ℕ → ℕ
one_at c x = if c == x then 1 else 0

pub times_push : (x c : ℕ) (xs : List ℕ) → times x (xs ++ c ∷ []) ≡ times x xs + one_at c x
times_push x c xs = let one : times x (c ∷ []) ≡ one_at c x = grind arith in omega (arith, times_append x xs (c ∷ []), one)

module _ {A P : Type 0} where
  shown_push : (ts : List (Stealer ℕ A Deal P)) (ws : List (Worker ℕ A Deal P)) (t : Stealer ℕ A Deal P)
      (w : Worker ℕ A Deal P) → AreShown ts ws → IsShown t w → AreShown (ts ++ t ∷ []) (ws ++ w ∷ [])
  shown_push ts ws t w h one = record {
    count = omega (arith, h.count, length-append ts (t ∷ []), length-append ws (w ∷ []));
    each = λ k s v lt. related_push (λ (v : Worker ℕ A Deal P) (s : Stealer ℕ A Deal P). IsShown s v) ws ts w t h.count
        (λ j d e less. h.each j e d less) one k v s lt;
  }

  pub shown_more : (ts more : List (Stealer ℕ A Deal P)) (ws others : List (Worker ℕ A Deal P)) (t : Stealer ℕ A Deal P)
      (w : Worker ℕ A Deal P) → more ≡ ts ++ t ∷ [] → others ≡ ws ++ w ∷ [] → AreShown ts ws → IsShown t w → AreShown more others
  shown_more ts more ws others t w more_is others_are h one =
      subst (λ l. AreShown l others) (sym more_is) (subst (λ l. AreShown (ts ++ t ∷ []) l) (sym others_are) (shown_push ts ws t w h one))

  -- a caller is dealt to the deque whose turn it is
  module _ (ws : List (Worker ℕ A Deal P)) (turn caller : ℕ) (o o' : Worker ℕ A Deal P) (here : o ≡ get_or ws turn o)
      (is : turn ≡ caller % length ws) (within : turn < length ws) (same : SameWorker o o') where
    was_there : (k : ℕ) (w : Worker ℕ A Deal P) → k ≡ turn → (worker_view (get_or ws k w)).dealt ≡ (worker_view o).dealt
    was_there k w at = ap (λ (v : Worker ℕ A Deal P). (worker_view v).dealt) (ap (λ j. get_or ws j w) at ∙ get_or_default ws turn w o within ∙ sym here)

  -- passes are cut off, from the first deque on
  pub record Cutting (ws0 ws : List (Worker ℕ A Deal P)) (row : List (Pass ℕ Deal A)) : Type 0 where
    pub count : length ws ≡ length ws0
    pub rest : (k : ℕ) (w : Worker ℕ A Deal P) → length row ≤ k → get_or ws k w ≡ get_or ws0 k w
    pub less : (k : ℕ) (w : Worker ℕ A Deal P) → k < length row → HasLess 1 (get_or ws0 k w) (get_or ws k w)
    pub new : (k : ℕ) (w : Worker ℕ A Deal P) (p : Pass ℕ Deal A) → k < length row → IsNew (get_or ws0 k w) (get_or row k p)

  pub cutting_more : (ws0 ws : List (Worker ℕ A Deal P)) (row more : List (Pass ℕ Deal A)) (k : ℕ)
      (o o' : Worker ℕ A Deal P) (p : Pass ℕ Deal A) → more ≡ row ++ p ∷ [] → k ≡ length row → k < length ws0 → o ≡ get_or ws k o
      → SameWorker o o' → IsPassOf (worker_deque o) p → 0 < (worker_view o).parts → view p ≡ deal 1 [] []
      → worker_view o' ≡ deal ((worker_view o).parts - 1) (worker_view o).dealt (worker_view o).taken
      → Cutting ws0 ws row → Cutting ws0 (set ws k o') more
  cutting_more ws0 ws row more k o o' p is at within here same deque some given left h =
      let long : length more ≡ length row + 1 = ap (λ l. length l) is ∙ length-append row (p ∷ []) in
      let was : (w : Worker ℕ A Deal P) → o ≡ get_or ws0 k w = λ w. here
      ∙ get_or_default ws k o w (omega (arith, within, h.count)) ∙ h.rest k w (omega (arith, at)) in
      record {
        count = length-set ws k o' ∙ h.count;
        rest = λ j w le. get_or-set_other ws k j o' w (λ e. omega (arith, e, le, long, at)) ∙ h.rest j w (omega (arith, le, long));
        less = λ j w lt. dite (ℕ_discrete j k)
            (λ e.
            let now : get_or (set ws k o') j w ≡ o' = ap (λ i. get_or (set ws k o') i w) e ∙ get_or-set_same ws k o' w (omega (arith, within, h.count)) in
            let one : HasLess 1 o o' = record {
              deque = same.0;
              fifo = same.1;
              parts =
                  omega (arith, some, ap (λ (v : Deal). v.parts) left);
              dealt = ap (λ (v : Deal). v.dealt) left;
              taken = ap (λ (v : Deal). v.taken) left;
            } in
            subst (λ (y : Worker ℕ A Deal P × Worker ℕ A Deal P). HasLess 1 y.0 y.1) (λ i. ((was w ∙ ap (λ q. get_or ws0 q w) (sym e)) i, sym now i)) one)
            (λ n. subst (λ (y : Worker ℕ A Deal P). HasLess 1 (get_or ws0 j w) y) (sym (get_or-set_other ws k j o' w n))
            (h.less j w (omega (arith, n, lt, long, at))));
        new = λ j w q lt. dite (ℕ_discrete j k)
            (λ e.
            let now : get_or more j q ≡ p = ap (λ l. get_or l j q) is ∙ ap (λ i. get_or (row ++ p ∷ []) i q) (e ∙ at) ∙ get_or_push row p q (length row) refl in
            let one : IsNew o p = record { deque = deque; view_is = given } in
            subst (λ (y : Worker ℕ A Deal P × Pass ℕ Deal A). IsNew y.0 y.1) (λ i. ((was w ∙ ap (λ z. get_or ws0 z w) (sym e)) i, sym now i)) one)
            (λ n.
            let below : j < length row = omega (arith, n, lt, long, at) in
            subst (λ (y : Pass ℕ Deal A). IsNew (get_or ws0 j w) y) (sym (ap (λ l. get_or l j q) is
            ∙ get_or_append_left row (p ∷ []) q j below)) (h.new j w q below));
      }

  -- the next owner has not given a part yet
  pub still_over : (ws0 ws : List (Worker ℕ A Deal P)) (row : List (Pass ℕ Deal A)) (k : ℕ) (o : Worker ℕ A Deal P)
      → k ≡ length row → k < length ws0 → o ≡ get_or ws k o → All (HasOver 1) ws0 → Cutting ws0 ws row → HasOver 1 o
  still_over ws0 ws row k o at within here enough h = subst (HasOver 1) (sym (here ∙ h.rest k o (omega (arith, at)))) (enough k o within)

  pub less_more : (n : ℕ) (olds mids news : List (Worker ℕ A Deal P)) → HaveLess n olds mids → HaveLess 1 mids news → HaveLess (n + 1) olds news
  less_more n olds mids news f s = record {
    count = s.count ∙ f.count;
    each = λ k w lt. let a = f.each k w lt in let b = s.each k w (omega (arith, lt, f.count)) in record {
      deque = b.deque ∙ a.deque;
      fifo = b.fifo ∙ a.fifo;
      parts = omega (arith, a.parts, b.parts);
      dealt = b.dealt ∙ a.dealt;
      taken = b.taken ∙ a.taken;
    };
  }

  pass_moved : (p : Pass ℕ Deal A) (v w : Worker ℕ A Deal P) → worker_deque v ≡ worker_deque w → IsPassOf (worker_deque v) p → IsPassOf (worker_deque w) p
  pass_moved p v w e h = subst (λ d. IsPassOf d p) e h

  pub row_before : (n : ℕ) (olds mids : List (Worker ℕ A Deal P)) (row : List (Pass ℕ Deal A)) → HaveLess n olds mids → IsNewRow mids row → IsNewRow olds row
  row_before n olds mids row l r = record {
    count = r.count ∙ l.count;
    each = λ k w p lt. let it = r.each k w p (omega (arith, lt, l.count)) in
        record { deque = pass_moved (get_or row k p) (get_or mids k w) (get_or olds k w) (l.each k w lt).deque it.deque; view_is = it.view_is };
  }

  pub row_after : (n : ℕ) (olds mids : List (Worker ℕ A Deal P)) (row : List (Pass ℕ Deal A)) → HaveLess n olds mids → IsNewRow olds row → IsNewRow mids row
  row_after n olds mids row l r = record {
    count = r.count ∙ sym l.count;
    each = λ k w p lt. let less : k < length olds = omega (arith, lt, l.count) in let it = r.each k w p less in
        record { deque = pass_moved (get_or row k p) (get_or olds k w) (get_or mids k w) (sym (l.each k w less).deque) it.deque; view_is = it.view_is };
  }

  -- all together: new deques, to which callers were dealt, and of which so many parts were handed out
  module _ (n : ℕ) (ts : List (Stealer ℕ A Deal P)) (olds mids news : List (Worker ℕ A Deal P))
      (views : All (λ (w : Worker ℕ A Deal P). worker_view w ≡ deal ALL_PARTS [] []) olds) (still : AreStill olds mids) (less : HaveLess n mids news) where
    abbrev before : (k : ℕ) → k < length news → k < length olds
    before k lt = omega (arith, lt, still.count, less.count)

    pub shown_out : AreShown ts olds → AreShown ts news
    shown_out h = record {
      count = h.count ∙ sym still.count ∙ sym less.count;
      each = λ k s w lt. let a = still.each k w (before k lt) in let b =
          less.each k w (omega (arith, before k lt, still.count)) in let it = h.each k s w (before k lt) in record {
            deque = b.deque ∙ a.deque ∙ it.deque;
            own_fifo = b.fifo ∙ a.fifo ∙ it.own_fifo;
            fifo = it.fifo;
          };
    }
