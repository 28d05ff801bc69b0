-- All rows are given back, and all deques are emptied.
use Rattle.worker_pool.proofs.Common.{◌≡◌, ℕ, suc, ◌+◌, ◌<◌, All, List, [], ◌∷◌, ◌++◌, length, get_or, refl, sym, ap, ◌∙◌, subst, arith, Vec, Global, sum_by}
use Rattle.worker_pool.proofs.Common.{sum_by-cons, sum_by_push, Pass, IsPassOf, worker_view, worker_flavor, Deal, times, AreGuests, HasAll, HaveMore}
use Rattle.worker_pool.proofs.Common.{owners_dealt, owners_took, stolen, IsReturning, IsWholeRow, rows_stole}
use Rattle.crossbeam_deque.specs.declared.handles.Worker.{Worker}

get_middle : {X : Type 0} (given after : List X) (x d : X) → get_or (given ++ x ∷ after) (length given) d ≡ x
get_middle [] after x d = refl
get_middle (y ∷ ys) after x d = get_middle ys after x d

length_middle : {X : Type 0} (given after : List X) (x : X) → length given < length (given ++ x ∷ after)
length_middle [] after x = omega arith
length_middle (y ∷ ys) after x = omega (arith, length_middle ys after x)

-- what holds of all items holds of the next one
pub next_has : {X : Type 0} (P : X → Type 0) (given : List X) {left after all : List X} {x : X} → left ≡ x ∷ after → given ++ left ≡ all → All P all → P x
next_has P given {left} {after} {all} {x} steps is has =
    let whole : given ++ x ∷ after ≡ all = ap (λ l. given ++ l) (sym steps) ∙ is in
    subst P (get_middle given after x x) (subst (All P) (sym whole) has (length given) x (length_middle given after x))

-- a sum over items that count olds much, each if the other is
pub sum_same : {X : Type 0} (f : X → ℕ) (xs ys : List X) → length ys ≡ length xs
    → ((k : ℕ) (d : X) → k < length xs → f (get_or ys k d) ≡ f (get_or xs k d)) → sum_by f ys ≡ sum_by f xs
sum_same f [] [] e h = refl
sum_same f [] (y ∷ ys) e h = absurd (omega arith)
sum_same f (x ∷ xs) [] e h = absurd (omega arith)
sum_same f (x ∷ xs) (y ∷ ys) e h = omega (
  arith,
  sum_by-cons f x xs,
  sum_by-cons f y ys,
  h 0 x (omega arith),
  sum_same f xs ys (omega arith) (λ k d lt. h (suc k) d (omega arith)),
)

module _ {A P : Type 0} where
  pub more_none : (ws : List (Worker ℕ A Deal P)) → HaveMore 0 ws ws
  more_none ws = record { count = refl; each = λ k w lt. record { deque = refl; fifo = refl; parts = omega arith; dealt = refl } }

  pub more_more : (n : ℕ) (olds news lasts : List (Worker ℕ A Deal P)) → HaveMore n olds news → HaveMore 1 news lasts → HaveMore (n + 1) olds lasts
  more_more n olds news lasts f s = record {
    count = s.count ∙ f.count;
    each = λ k w lt. let a = f.each k w lt in let b = s.each k w (omega (arith, lt, f.count)) in record {
      deque = b.deque ∙ a.deque;
      fifo = b.fifo ∙ a.fifo;
      parts = omega (arith, a.parts, b.parts);
      dealt = b.dealt ∙ a.dealt;
    };
  }

  pub guests_after : (n : ℕ) (olds news : List (Worker ℕ A Deal P)) (ps : List (Pass ℕ Deal A)) → HaveMore n olds news → AreGuests olds ps → AreGuests news ps
  guests_after n olds news ps m h = record {
    count = omega (arith, h.count, m.count);
    each = λ k w p lt.
        let it = h.each k w p lt in
        let more = m.each k w (omega (arith, lt, h.count)) in
        record {
          deque = subst (λ d. IsPassOf d (get_or ps k p)) (sym more.deque) it.deque;
          part = it.part;
          dealt = it.dealt;
          own = omega (arith, more.parts, it.own);
        };
  }

  pub whole_after : (n : ℕ) (olds news : List (Worker ℕ A Deal P)) (ps : List (Pass ℕ Deal A)) → HaveMore n olds news → IsWholeRow olds ps → IsWholeRow news ps
  whole_after n olds news ps m h = record { guests = guests_after n olds news ps m h.guests; whole = h.whole ∙ sym m.count }

  -- who gave away so many parts, and got olds many back, has all
  pub all_parts : (n : ℕ) (olds news : List (Worker ℕ A Deal P)) → All (IsReturning n) olds → HaveMore n olds news → All HasAll news
  all_parts n olds news h m k w lt = let within : k < length olds = omega (arith, lt, m.count) in omega (arith, (h k w within).parts, (m.each k w within).parts)

  pub all_fifo : (n : ℕ) (olds news : List (Worker ℕ A Deal P)) → All (IsReturning n) olds → HaveMore n olds news
      → All (λ (w : Worker ℕ A Deal P). worker_flavor w ≡ 0) news
  all_fifo n olds news h m k w lt = let within : k < length olds = omega (arith, lt, m.count) in (m.each k w within).fifo ∙ (h k w within).fifo

  pub same_dealt : (n : ℕ) (olds news : List (Worker ℕ A Deal P)) (x : ℕ) → HaveMore n olds news → owners_dealt news x ≡ owners_dealt olds x
  same_dealt n olds news x m = sum_same (λ (w : Worker ℕ A Deal P). times x (worker_view w).dealt) olds news m.count
      (λ k d lt. ap (times x) (m.each k d lt).dealt)

  -- one owner more has nothing left in its deque
  pub drained_push : (given : List (Worker ℕ A Deal P)) (w : Worker ℕ A Deal P) (x first old new : ℕ)
      → owners_took given x + old ≡ owners_dealt given x + first → times x (worker_view w).taken + new ≡ times x (worker_view w).dealt + old
      → owners_took (given ++ w ∷ []) x + new ≡ owners_dealt (given ++ w ∷ []) x + first
  drained_push given w x first old new before one = omega (
    arith,
    before,
    one,
    sum_by_push (λ (v : Worker ℕ A Deal P). times x (worker_view v).taken) given w,
    sum_by_push (λ (v : Worker ℕ A Deal P). times x (worker_view v).dealt) given w,
  )

-- one row more was given back
pub stole_push : (given : List (Vec (Pass ℕ Deal Global) Global)) (row : Vec (Pass ℕ Deal Global) Global) (x : ℕ)
    → rows_stole (given ++ row ∷ []) x ≡ rows_stole given x + stolen row.items x
stole_push given row x = sum_by_push (λ (r : Vec (Pass ℕ Deal Global) Global). stolen r.items x) given row
