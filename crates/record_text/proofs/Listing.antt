-- Identifiers listed one by one, down the index.
use Rattle.record_text.proofs.Common.{◌≡◌, ℕ, ◌<◌, ◌≤◌, Bool, true, false, cond, List, [], ◌∷◌, ◌++◌, map, take, length, nat_le, sym, ap, ◌∙◌, subst, arith}
use Rattle.record_text.proofs.Common.{append_assoc, append-nil, map_push}
use Rattle.std.proofs.Common.{length-append}
use Rattle.std.specs.List.{filter}
use Rattle.std.proofs.lemmas.List.{take_all, take-append-le, length-take}
use Rattle.std.proofs.lemmas.List.Elements.{filter-append}

-- the entries of the index
abbrev pub Entry : Type 0
Entry = (ℕ × ℕ) × ℕ

abbrev pub id_of : Entry → ℕ
id_of e = e.0.1

abbrev pub reaches : ℕ → Entry → Bool
reaches rank e = nat_le rank e.0.0

-- the identifiers of the first of these entries that reach the rank
abbrev pub listed : ℕ → ℕ → List Entry → List ℕ
listed rank most es = take most (map id_of (filter (reaches rank) es))

-- of no entries none are listed
pub nothing_listed : (rank most : ℕ) → listed rank most [] ≡ []
nothing_listed rank most = take_all most [] (omega arith)

-- of all entries the earlier ones are listed, and these are left
pub record IsListed (rank most : ℕ) (all earlier left : List Entry) (ids : List ℕ) : Type 0 where
  pub whole : all ≡ earlier ++ left
  pub so_far : ids ≡ listed rank most earlier

module _ (rank : ℕ) (xs : List Entry) (e : Entry) where
  -- an entry that reaches the rank joins the others
  joins : reaches rank e ≡ true → map id_of (filter (reaches rank) (xs ++ e ∷ [])) ≡ map id_of (filter (reaches rank) xs) ++ id_of e ∷ []
  joins is = ap (map id_of) (filter-append (reaches rank) xs (e ∷ []) ∙ ap (λ b. filter (reaches rank) xs ++ cond b (e ∷ []) []) is)
      ∙ map_push id_of (filter (reaches rank) xs) e

  -- one that does not is left out
  left_out : reaches rank e ≡ false → map id_of (filter (reaches rank) (xs ++ e ∷ [])) ≡ map id_of (filter (reaches rank) xs)
  left_out is = ap (map id_of) (filter-append (reaches rank) xs (e ∷ []) ∙ ap (λ b. filter (reaches rank) xs ++ cond b (e ∷ []) []) is
      ∙ append-nil (filter (reaches rank) xs))

-- one more if not enough were taken, and if there were
take_room : (n : ℕ) (ys : List ℕ) (y : ℕ) → length (take n ys) < n → take n (ys ++ y ∷ []) ≡ take n ys ++ y ∷ []
take_room n ys y few =
    let short : length ys < n = omega (arith, length-take n ys, few) in
    take_all n (ys ++ y ∷ []) (omega (arith, length-append ys (y ∷ []), short)) ∙ ap (λ l. l ++ y ∷ []) (sym (take_all n ys (omega (arith, short))))

take_full : (n : ℕ) (ys : List ℕ) (y : ℕ) → n ≤ length (take n ys) → take n (ys ++ y ∷ []) ≡ take n ys
take_full n ys y all = take-append-le n ys (y ∷ []) (omega (arith, length-take n ys, all))

module _ (rank most : ℕ) (all earlier rest : List Entry) (e : Entry) (left : List Entry) (ids : List ℕ) (is : rest ≡ e ∷ left)
    (i : IsListed rank most all earlier rest ids) where
  whole : all ≡ (earlier ++ e ∷ []) ++ left
  whole = i.whole ∙ ap (λ l. earlier ++ l) is ∙ sym (append_assoc earlier (e ∷ []) left)

  -- an entry is listed
  pub lists : (more : List ℕ) → reaches rank e ≡ true → length ids < most → more ≡ ids ++ id_of e ∷ []
      → IsListed rank most all (earlier ++ e ∷ []) left more
  lists more high few added = record {
    whole = whole;
    so_far = added ∙ ap (λ l. l ++ id_of e ∷ []) i.so_far
        ∙ sym (take_room most (map id_of (filter (reaches rank) earlier)) (id_of e) (subst (λ l. length l < most) i.so_far few))
        ∙ sym (ap (take most) (joins rank earlier e high));
  }

  -- an entry is passed over, which does not reach the rank, or if there are enough
  pub passes_low : reaches rank e ≡ false → IsListed rank most all (earlier ++ e ∷ []) left ids
  passes_low low = record { whole = whole; so_far = i.so_far ∙ sym (ap (take most) (left_out rank earlier e low)) }

  pub passes_full : reaches rank e ≡ true → most ≤ length ids → IsListed rank most all (earlier ++ e ∷ []) left ids
  passes_full high enough = record {
    whole = whole;
    so_far = i.so_far
        ∙ sym (take_full most (map id_of (filter (reaches rank) earlier)) (id_of e) (subst (λ l. most ≤ length l) i.so_far enough))
        ∙ sym (ap (take most) (joins rank earlier e high));
  }
