-- Trees and chains that are walked block by block.
use Rattle.txn_books.proofs.Common.{◌≡◌, ◌≢◌, ℕ, zero, suc, ◌+◌, ◌-◌, ◌<◌, ◌≤◌, List, [], ◌∷◌, ◌++◌, length, get_or, slice_get, Some, None, refl, sym, ap, ◌∙◌}
use Rattle.txn_books.proofs.Common.{subst, arith, length-append, append_assoc, append-nil, slice_get-get_or, slice_get_within, same_Some, Arena, block_at, dite}
use Rattle.txn_books.proofs.Common.{ℕ_discrete, nat_cmp_total, nat_cmp, nat_cmp-IsAntisymmetric, Cell, Entries, Blocks, value_of, ChainMap, HasChain}
use Rattle.txn_books.proofs.Common.{ChainsHold, AddsUp, entries_in}
use Rattle.txn_hash_map.proofs.Common.{HasKeysIn, bucket_of}
use Rattle.txn_hash_map.specs.declared.map.TheConstants.{BUCKETS}
use Rattle.txn_hash_map.proofs.Cells.{bucket_below, key_own, chain_short}
use Rattle.txn_books.proofs.ReadOff.Adding.{or_else, or_none, put_all, get_all, adds_cells, adds_append}
use Rattle.txn_hash_map.proofs.Numbers.{absent_in}
use Rattle.std.specs.FinMap as entry_map

-- four words in a row
pub four_words : (ws : List ℕ) (p j : ℕ) → p + 4 ≤ length ws → j ≤ 3
    → slice_get ws (p + j) ≡ Some (get_or (get_or ws p 0 ∷ get_or ws (p + 1) 0 ∷ get_or ws (p + 2) 0 ∷ get_or ws (p + 3) 0 ∷ []) j 0)
four_words ws p zero long le = ap (slice_get ws) (let e : p + 0 ≡ p = omega arith in e) ∙ slice_get-get_or ws p 0 (omega (arith, long))
four_words ws p (suc zero) long le = slice_get-get_or ws (p + 1) 0 (omega (arith, long))
four_words ws p (suc (suc zero)) long le = slice_get-get_or ws (p + 2) 0 (omega (arith, long))
four_words ws p (suc (suc (suc zero))) long le = slice_get-get_or ws (p + 3) 0 (omega (arith, long))
four_words ws p (suc (suc (suc (suc j)))) long le = absurd (omega (arith, le))

-- the chain that goes on at a name: what is listed, and then its entries, are these
pub record Follows (arena : Arena) (words : List ℕ) (name : ℕ) (listed whole : List (ℕ × ℕ)) : Type 0 where
  pub place : ℕ
  pub rest : List Cell
  pub named : slice_get words place ≡ Some name
  pub chain : HasChain arena words place rest
  pub all : listed ++ entries_in rest ≡ whole

-- the word that heads a chain is there
pub chain_there : (arena : Arena) (words : List ℕ) (place : ℕ) (cells : List Cell) → HasChain arena words place cells → place < length words
chain_there arena words place [] h = slice_get_within words place 0 h
chain_there arena words place (c ∷ cs) h = slice_get_within words place (c.block + 1) h.0

module _ {arena : Arena} {words : List ℕ} {name : ℕ} {listed whole : List (ℕ × ℕ)} where
  -- if the name is none, all are listed
  pub follows_none : name ≡ 0 → Follows arena words name listed whole → listed ≡ whole
  follows_none none h = at (h.rest) h.chain h.all
    where
      at : (rest : List Cell) → HasChain arena words h.place rest → listed ++ entries_in rest ≡ whole → listed ≡ whole
      at [] chain all = sym (append-nil listed) ∙ all
      at (c ∷ cs) chain all = let e : name ≡ c.block + 1 = same_Some name (c.block + 1) (sym h.named ∙ chain.0) in absurd (omega (arith, none, e))

  -- else it names a block, whose entry is one more
  pub follows_below : name ≢ 0 → Follows arena words name listed whole → (name ≤ arena.blocks) × (length listed + 1 ≤ length whole)
  follows_below some h = at (h.rest) h.chain h.all
    where
      at : (rest : List Cell) → HasChain arena words h.place rest → listed ++ entries_in rest ≡ whole
          → (name ≤ arena.blocks) × (length listed + 1 ≤ length whole)
      at [] chain all = absurd (some (same_Some name 0 (sym h.named ∙ chain)))
      at (c ∷ cs) chain all =
          let e : name ≡ c.block + 1 = same_Some name (c.block + 1) (sym h.named ∙ chain.0) in
          let long : length listed + length (entries_in (c ∷ cs)) ≡ length whole = sym (length-append listed (entries_in (c ∷ cs))) ∙ ap length all in
          (omega (arith, e, chain.1), omega (arith, long))

  pub follows_next : (key value next : ℕ) → name ≢ 0 → slice_get words (block_at arena (name - 1)) ≡ Some key
      → slice_get words (block_at arena (name - 1) + 1) ≡ Some value
      → slice_get words (block_at arena (name - 1) + 2) ≡ Some next → Follows arena words name listed whole
      → Follows arena words next (listed ++ (key, value) ∷ []) whole
  follows_next key value next some first second third h = at (h.rest) h.chain h.all
    where
      at : (rest : List Cell) → HasChain arena words h.place rest → listed ++ entries_in rest ≡ whole
          → Follows arena words next (listed ++ (key, value) ∷ []) whole
      at [] chain all = absurd (some (same_Some name 0 (sym h.named ∙ chain)))
      at (c ∷ cs) chain all =
          let e : name ≡ c.block + 1 = same_Some name (c.block + 1) (sym h.named ∙ chain.0) in
          let block : name - 1 ≡ c.block = omega (arith, e) in
          let keys : c.key ≡ key = same_Some c.key key (sym chain.2 ∙ ap (λ b. slice_get words (block_at arena b)) (sym block) ∙ first) in
          let values : c.value ≡ value = same_Some c.value value (sym chain.3 ∙ ap (λ b. slice_get words (block_at arena b + 1)) (sym block) ∙ second) in
          record {
            place = block_at arena c.block + 2;
            rest = cs;
            named = ap (λ b. slice_get words (block_at arena b + 2)) (sym block) ∙ third;
            chain = chain.4;
            all = append_assoc listed ((key, value) ∷ []) (entries_in cs) ∙ (λ i. listed ++ (sym keys i, sym values i) ∷ entries_in cs) ∙ all;
          }

-- what the buckets below a number hold is listed
pub record Gathers (n : ℕ) (entries : Entries) (listed : List (ℕ × ℕ)) : Type 0 where
  pub part : Entries
  pub adds : AddsUp entry_map.empty listed part
  pub low : (key : ℕ) → bucket_of key < n → entry_map.get part key ≡ entry_map.get entries key
  pub high : (key : ℕ) → n ≤ bucket_of key → entry_map.get part key ≡ None

pub gathers_none : (entries : Entries) → Gathers 0 entries []
gathers_none entries = record {
  part = entry_map.empty;
  adds = refl;
  low = λ key lt. absurd (omega (arith, lt));
  high = λ key le. entry_map.get-empty nat_cmp key;
}

module _ {map : ChainMap} {words : List ℕ} {entries : Entries} {used : Blocks} (h : ChainsHold map words entries used) where
  pub gathers_more : (n : ℕ) (listed : List (ℕ × ℕ)) → n < BUCKETS → Gathers n entries listed → Gathers (n + 1) entries (listed ++ entries_in (h.cells n))
  gathers_more n listed lt k =
      let cs : List Cell = h.cells n in
      let own : HasKeysIn n cs = h.own n lt in
      let all : Entries = put_all cs k.part in
      let is : (key : ℕ) → entry_map.get all key ≡ or_else (value_of key cs) (entry_map.get k.part key) = λ key. get_all key cs k.part in
      let other : (key : ℕ) → bucket_of key ≢ n → entry_map.get all key ≡ entry_map.get k.part key =
      λ key ne. is key ∙ ap (λ p. or_else p (entry_map.get k.part key)) (absent_in n key cs own ne) in
      record {
        part = all;
        adds = adds_append nat_cmp_total nat_cmp-IsAntisymmetric listed (entries_in cs) entry_map.empty k.part all k.adds
            (adds_cells cs k.part all (h.once n lt) (λ key some. k.high key (let same : bucket_of key ≡ n =
            key_own n key cs own some in omega (arith, same))) is);
        low = λ key less. dite (ℕ_discrete (bucket_of key) n)
            (λ e. is key ∙ ap (λ p. or_else (value_of key cs) p) (k.high key (omega (arith, e))) ∙ or_none (value_of key cs)
            ∙ ap (λ i. value_of key (h.cells i)) (sym e) ∙ sym (h.entries_are key))
            (λ ne. other key ne ∙ k.low key (omega (arith, less, ne)));
        high = λ key le. other key (λ e. omega (arith, le, e)) ∙ k.high key (omega (arith, le));
      }

  -- what all buckets hold is the map
  pub gathers_all : (n : ℕ) (listed : List (ℕ × ℕ)) → n ≡ BUCKETS → Gathers n entries listed → AddsUp entry_map.empty listed entries
  gathers_all n listed e k =
      let same : k.part ≡ entries = entry_map.same_map nat_cmp_total nat_cmp-IsAntisymmetric k.part entries
      (λ key. k.low key (omega (arith, e, bucket_below key))) in
      subst (λ m. AddsUp entry_map.empty listed m) same k.adds

  pub bucket_chain : (n : ℕ) → n < BUCKETS → (cells : List Cell) × HasChain map.arena words (map.buckets + n) cells × (length cells ≤ map.arena.blocks)
  bucket_chain n lt = (h.cells n, h.chain n lt, chain_short map.arena words (map.buckets + n) (h.cells n) (h.chain n lt) (h.once n lt))
