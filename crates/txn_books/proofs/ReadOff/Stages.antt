-- From empty books to those that words stand for: accounts, prices, positions, and margin calls.
use Rattle.txn_books.proofs.Common.{◌≡◌, ℕ, Bool, true, false, cond, List, [], ◌∷◌, map, filter, inl, inr, refl, sym, ap, ◌∙◌, subst, arith, Ordering, nat_cmp}
use Rattle.txn_books.proofs.Common.{ClearingBooks, position_cmp, empty_books, AreInRange, Entries, Blocks, HasMap, insert_other, TreeHolds, tree_part}
use Rattle.txn_books.proofs.Common.{ChainsHold, chain_part, QueueHolds, BooksShape, tree_of, chains_of, queue_of, chained, Stands, AddsUp, AddsAccounts}
use Rattle.txn_books.proofs.Common.{AddsPrices, AddsPositions, AddsCalls, nothing_yet, with_accounts, with_prices, with_positions}
use Rattle.std.proofs.lemmas.Option.{none-some}
use Rattle.books_model.proofs.Maps.Trees.{found_after_insert}
use Rattle.txn_books.proofs.OneState.ChainedChanges.{Kind, IsIn, Alike, prices, positions, back_in, says_put, says_past, alike_one, prices_alike}
use Rattle.txn_books.proofs.OneState.ChainedChanges.{positions_alike}
use Rattle.std.specs.FinMap as entry_map

module _ {K : Type 0} {R : K → K → Ordering} (kind : Kind R) where
  -- the entries of a kind among those of the chains
  abbrev of_kind : List (ℕ × ℕ) → List (K × ℕ)
  of_kind es = map (λ e. (kind.back e.0, e.1)) (filter (λ e. kind.is_own e.0) es)

  abbrev AddsIf : entry_map.FinMap R ℕ → ℕ × ℕ → List (ℕ × ℕ) → entry_map.FinMap R ℕ → Bool → Type 0
  AddsIf m e es n b = AddsUp m (map (λ d. (kind.back d.0, d.1)) (cond b (e ∷ filter (λ d. kind.is_own d.0) es) (filter (λ d. kind.is_own d.0) es))) n

  alike_put : (key x : ℕ) → kind.is_own key ≡ true → (have : Entries) (m : entry_map.FinMap R ℕ)
      → Alike kind have m → Alike kind (entry_map.insert have key x) (entry_map.insert m (kind.back key) x)
  alike_put key x mine have m h = record {
    says = says_put kind key x mine have m h.says;
    own = λ p y there. elim (found_after_insert kind.total kind.exact m (kind.back key) p x y there) [
      | inl new ↦ subst (IsIn kind) (sym new.0) (back_in kind key mine)
      | inr old ↦ h.own p y old
    ];
  }

  -- what makes the entries of the chains makes the map, of those of its kind
  alike_add : (es : List (ℕ × ℕ)) {have whole : Entries} {m n : entry_map.FinMap R ℕ} → Alike kind have m → Alike kind whole n
      → AddsUp have es whole → AddsUp m (of_kind es) n
  alike_add [] {m = m} h k adds = alike_one kind (subst (λ f. Alike kind f m) adds h) k
  alike_add (e ∷ es) {have} {whole} {m} {n} h k adds = elim (kind.is_own e.0) as (λ b. kind.is_own e.0 ≡ b → AddsUp m (of_kind (e ∷ es)) n) [
    | true ↦ λ is. subst (AddsIf m e es n) (sym is) (
      h.says (kind.back e.0) (back_in kind e.0 is) ∙ ap (entry_map.get have) (kind.there e.0 is) ∙ adds.0,
      alike_add es (alike_put e.0 e.1 is have m h) k adds.1,
    )
    | false ↦ λ is. subst (AddsIf m e es n) (sym is) (alike_add es {have = entry_map.insert have e.0 e.1} (record {
      says = says_past kind e.0 is have _ m (insert_other have e.0 e.1) h.says;
      own = h.own;
    }) k adds.1)
  ] refl

  alike_none : Alike kind entry_map.empty entry_map.empty
  alike_none = record {
    says = λ p is. entry_map.get-empty R p ∙ sym (entry_map.get-empty nat_cmp (kind.key_of p));
    own = λ p x there. absurd (none-some x (sym (entry_map.get-empty R p) ∙ there));
  }

module _ (whole : ClearingBooks) (range : AreInRange whole) where
  -- the stages are in range
  pub accounts_range : AreInRange (with_accounts whole)
  accounts_range = record {
    blocks = range.blocks;
    instruments = range.instruments;
    ring = range.ring;
    accounts = range.accounts;
    prices = λ i x there. absurd (none-some x (sym (entry_map.get-empty nat_cmp i) ∙ there));
    positions = λ a i x there. absurd (none-some x (sym (entry_map.get-empty position_cmp (a, i)) ∙ there));
    calls = λ k d lt. absurd (omega (arith, lt));
    queue = omega arith;
    blocks_used = omega (arith, range.blocks_used, entry_map.len-empty nat_cmp ℕ, entry_map.len-empty position_cmp ℕ);
  }

  pub prices_range : AreInRange (with_prices whole)
  prices_range = record {
    blocks = range.blocks;
    instruments = range.instruments;
    ring = range.ring;
    accounts = range.accounts;
    prices = range.prices;
    positions = λ a i x there. absurd (none-some x (sym (entry_map.get-empty position_cmp (a, i)) ∙ there));
    calls = λ k d lt. absurd (omega (arith, lt));
    queue = omega arith;
    blocks_used = omega (arith, range.blocks_used, entry_map.len-empty position_cmp ℕ);
  }

  pub positions_range : AreInRange (with_positions whole)
  positions_range = record {
    blocks = range.blocks;
    instruments = range.instruments;
    ring = range.ring;
    accounts = range.accounts;
    prices = range.prices;
    positions = range.positions;
    calls = λ k d lt. absurd (omega (arith, lt));
    queue = omega arith;
    blocks_used = range.blocks_used;
  }

  pub accounts_stage : (es : List (ℕ × ℕ)) → AddsUp entry_map.empty es whole.accounts → AddsAccounts es (nothing_yet whole) (with_accounts whole)
  accounts_stage es adds = record { adds = adds; same = refl; range = accounts_range }

  pub prices_stage : (es : List (ℕ × ℕ)) → AddsUp entry_map.empty es (chained whole) → AddsPrices es (with_accounts whole) (with_prices whole)
  prices_stage es adds = record { adds = alike_add prices es (alike_none prices) (prices_alike range) adds; same = refl; range = prices_range }

  pub positions_stage : (es : List (ℕ × ℕ)) → AddsUp entry_map.empty es (chained whole) → AddsPositions es (with_prices whole) (with_positions whole)
  positions_stage es adds = record { adds = alike_add positions es (alike_none positions) (positions_alike range) adds; same = refl; range = positions_range }

-- the stages of the books that words stand for
module _ {shape : BooksShape} {words : List ℕ} {whole : ClearingBooks} (stands : Stands shape words whole) where
  tree_is : TreeHolds (tree_of shape) words whole.accounts stands.parts.tree_used
  tree_is = subst (λ z. TreeHolds (tree_of z) words whole.accounts stands.parts.tree_used) stands.sizes stands.parts.accounts

  chains_are : ChainsHold (chains_of shape) words (chained whole) stands.parts.chain_used
  chains_are = subst (λ z. ChainsHold (chains_of z) words (chained whole) stands.parts.chain_used) stands.sizes stands.parts.chains

  pub has_tree : HasMap (tree_part (tree_of shape)) words
  has_tree = record { entries = whole.accounts; used = stands.parts.tree_used; holds = tree_is }

  pub has_chains : HasMap (chain_part (chains_of shape)) words
  has_chains = record { entries = chained whole; used = stands.parts.chain_used; holds = chains_are }

  module _ (books : ClearingBooks) (listed : List (ℕ × ℕ)) where
    pub first_stage : books ≡ empty_books shape.blocks shape.instruments shape.ring
        → ((entries : Entries) (used : Blocks) → TreeHolds (tree_of shape) words entries used → AddsUp entry_map.empty listed entries)
        → AddsAccounts listed books (with_accounts whole)
    first_stage e adds =
        subst (λ b. AddsAccounts listed b (with_accounts whole)) (ap (λ (z : BooksShape). empty_books z.blocks z.instruments z.ring) stands.sizes ∙ sym e)
        (accounts_stage whole stands.range listed (adds whole.accounts stands.parts.tree_used tree_is))

    module _ (adds : (entries : Entries) (used : Blocks) → ChainsHold (chains_of shape) words entries used → AddsUp entry_map.empty listed entries) where
      pub second_stage : books ≡ with_accounts whole → AddsPrices listed books (with_prices whole)
      second_stage e = subst (λ b. AddsPrices listed b (with_prices whole)) (sym e)
          (prices_stage whole stands.range listed (adds (chained whole) stands.parts.chain_used chains_are))

      pub third_stage : books ≡ with_prices whole → AddsPositions listed books (with_positions whole)
      third_stage e = subst (λ b. AddsPositions listed b (with_positions whole)) (sym e)
          (positions_stage whole stands.range listed (adds (chained whole) stands.parts.chain_used chains_are))

  pub last_stage : (books : ClearingBooks) → books ≡ with_positions whole → AddsCalls (queue_of shape) words books whole
  last_stage books e = subst (λ b. AddsCalls (queue_of shape) words b whole) (sym e) (record {
    queue = subst (λ z. QueueHolds (queue_of z) words whole.calls) stands.sizes stands.parts.queue;
    none = refl;
    same = refl;
    range = stands.range;
  })
