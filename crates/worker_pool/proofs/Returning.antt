-- One worker's passes are given back, from the last deque on.
use Rattle.worker_pool.proofs.Common.{◌≡◌, ◌≢◌, ℕ, ◌+◌, ◌<◌, ◌≤◌, List, [], ◌∷◌, ◌++◌, set, length, get_or, sym, refl, ap, ◌∙◌, subst, arith, length-append}
use Rattle.worker_pool.proofs.Common.{append-nil, sum_by-set, sum_by_push, dite, ℕ_discrete, Pass, view, SameWorker, worker_view, Deal, times, deal, IsGuest}
use Rattle.worker_pool.proofs.Common.{AreGuests, owners_took, stolen, length-set, get_or-set_other, get_or-set_same, get_or_append_left, get_or_default}
use Rattle.worker_pool.proofs.Common.{get_or_push}
use Rattle.crossbeam_deque.specs.declared.handles.Worker.{Worker}
use Rattle.worker_pool.specs.Inner.Ends.{HasMore}
use Rattle.worker_pool.proofs.Steps.{times_append}

module _ {A P : Type 0} where
  pub record Taking (ws0 ws : List (Worker ℕ A Deal P)) (ps0 ps : List (Pass ℕ Deal A)) : Type 0 where
    pub match : AreGuests ws ps
    pub count : length ws ≡ length ws0
    pub rest : (k : ℕ) (w : Worker ℕ A Deal P) → k < length ps → get_or ws k w ≡ get_or ws0 k w
    pub done : (k : ℕ) (w : Worker ℕ A Deal P) → length ps ≤ k → k < length ws0 → HasMore 1 (get_or ws0 k w) (get_or ws k w)
    pub had : (x : ℕ) → owners_took ws x + stolen ps x ≡ owners_took ws0 x + stolen ps0 x

  pub taking_starts : (ws : List (Worker ℕ A Deal P)) (ps : List (Pass ℕ Deal A)) → AreGuests ws ps → length ps ≡ length ws → Taking ws ws ps ps
  taking_starts ws ps m long = record {
    match = m;
    count = refl;
    rest = λ k w lt. refl;
    done =
        λ k w le lt. absurd (omega (arith, long, le, lt));
    had = λ x. refl;
  }

  pub after_one : (o o' : Worker ℕ A Deal P) (p : Pass ℕ Deal A) → IsGuest o p → SameWorker o o'
      → worker_view o' ≡ deal ((worker_view o).parts + (view p).parts) ((worker_view o).dealt ++ (view p).dealt)
      ((worker_view o).taken ++ (view p).taken) → HasMore 1 o o'
  after_one o o' p m same e = record {
    deque = same.0;
    fifo = same.1;
    parts = ap (λ (v : Deal). v.parts) e ∙ ap (λ (k : ℕ). (worker_view o).parts + k) m.part;
    dealt = ap (λ (v : Deal). v.dealt) e ∙ (ap (λ (l : List ℕ). (worker_view o).dealt ++ l) m.dealt ∙ append-nil (worker_view o).dealt);
  }

  pub taking_more : (ws0 ws : List (Worker ℕ A Deal P)) (ps0 ps ps' : List (Pass ℕ Deal A)) (k : ℕ)
      (o o' : Worker ℕ A Deal P) (p : Pass ℕ Deal A) → ps ≡ ps' ++ p ∷ [] → k ≡ length ps' → o ≡ get_or ws k o → SameWorker o o'
      → worker_view o' ≡ deal ((worker_view o).parts + (view p).parts) ((worker_view o).dealt ++ (view p).dealt) ((worker_view o).taken ++ (view p).taken)
      → Taking ws0 ws ps0 ps → Taking ws0 (set ws k o') ps0 ps'
  taking_more ws0 ws ps0 ps ps' k o o' p is at here same e t =
      let long : length ps ≡ length ps' + 1 = ap length is ∙ length-append ps' (p ∷ []) in
      let within : k < length ws = omega (arith, long, at, t.match.count) in
      let last : get_or ps k p ≡ p = ap (λ l. get_or l k p) is ∙ (ap (λ i. get_or (ps' ++ p ∷ []) i p) at ∙ get_or_push ps' p p (length ps') refl) in
      let m : IsGuest o p = subst (λ (y : Worker ℕ A Deal P × Pass ℕ Deal A). IsGuest y.0 y.1)
      (λ i. (sym here i, last i)) (t.match.each k o p (omega (arith, long, at))) in
      record {
        match = record {
          count = omega (arith, length-set ws k o', long, t.match.count);
          each = λ j w q lt. let n : j ≢ k = λ e. omega (arith, e, lt, at) in
              subst (λ (y : Worker ℕ A Deal P × Pass ℕ Deal A). IsGuest y.0 y.1)
              (λ i. (
                sym (get_or-set_other ws k j o' w n) i,
                (ap (λ l. get_or l j q) is ∙ get_or_append_left ps' (p ∷ []) q j lt) i,
              )) (t.match.each j w q (omega (arith, long, lt)));
        };
        count = length-set ws k o' ∙ t.count;
        rest = λ j w lt. get_or-set_other ws k j o' w (λ e. omega (arith, e, lt, at)) ∙ t.rest j w (omega (arith, long, lt));
        done = λ j w le lt. dite (ℕ_discrete j k)
            (λ e. subst (λ (i : ℕ). HasMore 1 (get_or ws0 i w) (get_or (set ws k o') i w)) (sym e)
            (subst (λ (y : Worker ℕ A Deal P × Worker ℕ A Deal P). HasMore 1 y.0 y.1)
            (λ i. (
              (here ∙ (get_or_default ws k o w within ∙ t.rest k w (omega (arith, long, at)))) i,
              sym (get_or-set_same ws k o' w within) i,
            )) (after_one o o' p m same e'')))
            (λ n. subst (λ (y : Worker ℕ A Deal P). HasMore 1 (get_or ws0 j w) y) (sym (get_or-set_other ws k j o' w n))
            (t.done j w (omega (arith, long, le, at, n)) lt));
        had = λ x. let F : Worker ℕ A Deal P → ℕ = λ y. times x (worker_view y).taken in
            let s : owners_took (set ws k o') x + F o ≡ owners_took ws x + F o' =
            ap (λ (y : Worker ℕ A Deal P). owners_took (set ws k o') x + F y) here ∙ sum_by-set F ws k o' o within in
            let g : F o' ≡ F o + times x (view p).taken = ap (λ (v : Deal). times x v.taken) e ∙ times_append x (worker_view o).taken (view p).taken in
            let r : stolen ps x ≡ stolen ps' x + times x (view p).taken = ap (λ l. stolen l x) is
            ∙ sum_by_push (λ (q : Pass ℕ Deal A). times x (view q).taken) ps' p in
            omega (arith, t.had x, s, g, r);
      }
    where
      e'' : worker_view o' ≡ deal ((worker_view o).parts + (view p).parts) ((worker_view o).dealt ++ (view p).dealt) ((worker_view o).taken ++ (view p).taken)
      e'' = e
