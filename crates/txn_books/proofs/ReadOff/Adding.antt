-- Entries that are put into a map one after another.
use Rattle.txn_books.proofs.Common.{◌≡◌, ◌≢◌, ℕ, ◌+◌, List, [], ◌∷◌, ◌++◌, length, Option, Some, None, refl, sym, ap, ◌∙◌, subst, arith, dite, ℕ_discrete}
use Rattle.txn_books.proofs.Common.{Ordering, IsTotalOrder, nat_cmp_total, nat_cmp-IsAntisymmetric, CmpEqualImpliesEq, Cell, Entries, value_of, HasKeysOnce}
use Rattle.txn_books.proofs.Common.{value_first, value_later, insert_same, insert_other, AddsUp, entries_in}
use Rattle.books_model.proofs.Maps.Trees.{len_after_insert}
use Rattle.txn_books.proofs.OneState.ChainedChanges.{put_here, put_there}
use Rattle.std.specs.FinMap as entry_map

module _ {K : Type 0} {R : K → K → Ordering} (o : IsTotalOrder R) (exact : CmpEqualImpliesEq R) where
  -- what was there stays
  pub adds_keep : (es : List (K × ℕ)) (f g : entry_map.FinMap R ℕ) (k : K) (v : ℕ) → AddsUp f es g → entry_map.get f k ≡ Some v → entry_map.get g k ≡ Some v
  adds_keep [] f g k v a h = ap (λ m. entry_map.get m k) (sym a) ∙ h
  adds_keep (e ∷ es) f g k v a h =
      let ne : k ≢ e.0 = λ same. let none : entry_map.get f k ≡ None = ap (entry_map.get f) same ∙ a.0 in absurd (cc) in
      adds_keep es (entry_map.insert f e.0 e.1) g k v a.1 (put_there o exact f e.0 e.1 k ne ∙ h)

  -- and each entry is there then
  pub adds_first : (e : K × ℕ) (es : List (K × ℕ)) (f g : entry_map.FinMap R ℕ) → AddsUp f (e ∷ es) g → entry_map.get g e.0 ≡ Some e.1
  adds_first e es f g a = adds_keep es (entry_map.insert f e.0 e.1) g e.0 e.1 a.1 (put_here o exact f e.0 e.1)

  -- there are as many more as were put in
  pub adds_length : (es : List (K × ℕ)) (f g : entry_map.FinMap R ℕ) → AddsUp f es g → entry_map.len f + length es ≡ entry_map.len g
  adds_length [] f g a = let same : entry_map.len f ≡ entry_map.len g = ap entry_map.len a in omega (arith, same)
  adds_length (e ∷ es) f g a =
      let rest : entry_map.len (entry_map.insert f e.0 e.1) + length es ≡ entry_map.len g = adds_length es (entry_map.insert f e.0 e.1) g a.1 in
      let more : entry_map.len (entry_map.insert f e.0 e.1) ≡ entry_map.len f + 1 = len_after_insert o f e.0 e.1 a.0 in
      omega (arith, rest, more)

  -- one list after another
  pub adds_append : (es ds : List (K × ℕ)) (f g h : entry_map.FinMap R ℕ) → AddsUp f es g → AddsUp g ds h → AddsUp f (es ++ ds) h
  adds_append [] ds f g h a b = at (sym a) b
    where
      at : g ≡ f → AddsUp g ds h → AddsUp f ds h
      at e k = subst (λ m. AddsUp m ds h) e k
  adds_append (e ∷ es) ds f g h a b = (a.0, adds_append es ds (entry_map.insert f e.0 e.1) g h a.1 b)

-- the first of two answers
abbrev pub or_else : Option ℕ → Option ℕ → Option ℕ
or_else None p = p
or_else (Some x) p = Some x

pub or_none : (p : Option ℕ) → or_else p None ≡ p
or_none None = refl
or_none (Some x) = refl

-- cells, each under a key of its own, that a map lacks, make the map that has what they say, and else what it had
pub adds_cells : (cs : List Cell) (f g : Entries) → HasKeysOnce cs → ((key : ℕ) → value_of key cs ≢ None → entry_map.get f key ≡ None)
    → ((key : ℕ) → entry_map.get g key ≡ or_else (value_of key cs) (entry_map.get f key)) → AddsUp f (entries_in cs) g
adds_cells [] f g once new is = entry_map.same_map nat_cmp_total nat_cmp-IsAntisymmetric f g (λ q. sym (is q))
adds_cells (c ∷ cs) f g once new is = (
  new c.key (λ none. let some : value_of c.key (c ∷ cs) ≡ Some c.value = value_first c.key c cs refl in cc),
  adds_cells cs (entry_map.insert f c.key c.value) g once.1
      (λ key some. dite (ℕ_discrete c.key key)
      (λ e. absurd (some (ap (λ k. value_of k cs) (sym e) ∙ once.0)))
      (λ ne. insert_other f c.key c.value key (λ e. ne (sym e)) ∙ new key (λ none. some (sym (value_later key c cs ne) ∙ none))))
      (λ key. dite (ℕ_discrete c.key key)
      (λ e. is key ∙ ap (λ p. or_else p (entry_map.get f key)) (value_first key c cs e)
      ∙ sym (ap (λ p. or_else p (entry_map.get (entry_map.insert f c.key c.value) key)) (ap (λ k. value_of k cs) (sym e)
      ∙ once.0) ∙ ap (λ k. entry_map.get (entry_map.insert f c.key c.value) k) (sym e) ∙ insert_same f c.key c.value))
      (λ ne. is key ∙ ap (λ p. or_else p (entry_map.get f key)) (value_later key c cs ne)
      ∙ ap (λ p. or_else (value_of key cs) p) (sym (insert_other f c.key c.value key (λ e. ne (sym e)))))),
)

-- a map with the cells put in
abbrev pub put_all : List Cell → Entries → Entries
put_all [] f = f
put_all (c ∷ cs) f = entry_map.insert (put_all cs f) c.key c.value

pub get_all : (key : ℕ) (cs : List Cell) (f : Entries) → entry_map.get (put_all cs f) key ≡ or_else (value_of key cs) (entry_map.get f key)
get_all key [] f = refl
get_all key (c ∷ cs) f = dite (ℕ_discrete c.key key)
    (λ e. ap (λ k. entry_map.get (put_all (c ∷ cs) f) k) (sym e) ∙ insert_same (put_all cs f) c.key c.value
    ∙ sym (ap (λ p. or_else p (entry_map.get f key)) (value_first key c cs e)))
    (λ ne. insert_other (put_all cs f) c.key c.value key (λ e. ne (sym e)) ∙ get_all key cs f
    ∙ ap (λ p. or_else p (entry_map.get f key)) (sym (value_later key c cs ne)))
