use Rattle.txn_hash_map.proofs.Common.{◌≡◌, ℕ, ◌+◌, ◌^◌, ◌<◌, ◌≤◌, Bool, true, false, List, length, slice_set, inl, inr, refl, ap, ◌∙◌, arith, rules}
use Rattle.txn_hash_map.proofs.Common.{length-set, Entries, Blocks, HoldsApart, in_here, bucket_of, IsLaid, chain_part, IsPutInFront}
use Rattle.std.proofs.Common.{get_or}
use Rattle.std.proofs.lemmas.Option.{slice_get-get_or}
use Rattle.txn_hash_map.proofs.Cells.{bucket_below}
use Rattle.txn_hash_map.proofs.Changes.{put_apart}
use Rattle.txn_hash_map.proofs.Fronts.{put_state}
use Rattle.txn_hash_map.proofs.map.ChainMap.insert_absent.Goals.{After-bucket, After-from}
use Rattle.std.specs.FinSet as set
use Rattle.std.specs.FinMap as entry_map
use Rattle.txn_hash_map.proofs.map.ChainMap.insert_absent.Goals as goal

-- the bucket's word is one of the list
within : (c : After-bucket) → (c.args.self.now.buckets + c.bucket.result < length c.args.words.now) × (length c.args.words.now ≤ 2 ^ 64)
within c =
    let l : IsLaid c.args.self.now c.args.words.now = c.requires.order.holds.map.laid in
    (omega (arith, l.buckets, bucket_below c.args.key, c.bucket.ensures), l.arena.places)

pub overflow_add-place : goal.overflow_add-place
overflow_add-place c = omega (arith, (within c).0, (within c).1)

pub offset_bounds-words-place : goal.offset_bounds-words-place
offset_bounds-words-place c =
    let w = within (goal.at.offset_bounds-words-place c).After-bucket in
    let lt : c.args.self.now.buckets + c.bucket.result < length c.args.words.now = w.0 in
    search rules

pub bounds-words-place : goal.bounds-words-place
bounds-words-place c = (within (goal.at.bounds-words-place c).After-bucket).0

pub offset_bounds-words-place-2 : goal.offset_bounds-words-place-2
offset_bounds-words-place-2 c =
    let w = within (goal.at.offset_bounds-words-place-2 c).After-bucket in
    let lt : c.args.self.now.buckets + c.bucket.result < length c.args.words.now = w.0 in
    search rules

-- the words with the block in front of its chain
front : (c : After-from) → List ℕ
front c =
    let place : ℕ = c.args.self.now.buckets + c.bucket.result in
    let at : ℕ = c.place_of-at.result in
    slice_set (slice_set (slice_set (slice_set c.args.words.now at c.args.key) (at + 1) c.args.value) (at + 2) (get_or c.args.words.now place 0))
    place (c.from.result + 1)

pub bounds-words-place-2 : goal.bounds-words-place-2
bounds-words-place-2 c =
    let w = within (goal.at.bounds-words-place-2 c).After-bucket in
    let s : List ℕ = c.args.words.now in
    let at : ℕ = c.place_of-at.result in
    let s1 : List ℕ = slice_set s at c.args.key in
    let s2 : List ℕ = slice_set s1 (at + 1) c.args.value in
    let z : ℕ = get_or s (c.args.self.now.buckets + c.bucket.result) 0 in
    let long : length (slice_set s2 (at + 2) z) ≡ length s = length-set s2 (at + 2) z ∙ length-set s1 (at + 1) c.args.value ∙ length-set s at c.args.key in
    omega (arith, w.0)

is_front : (c : After-from) → IsPutInFront c.args.self.now c.args.key c.args.value c.args.block c.args.words.now (front c)
unfolding front
is_front c =
    let m = c.args.self.now in
    let s : List ℕ = c.args.words.now in
    let place : ℕ = m.buckets + bucket_of c.args.key in
    let is_bucket : m.buckets + c.bucket.result ≡ place = ap (λ k. m.buckets + k) c.bucket.ensures in
    let lt : place < length s = omega (arith, (within (goal.at.returns-clause-put c).After-bucket).0) in
    rw (c.place_of-at.ensures, c.bucket.ensures, c.from.ensures)
    (put_state c.args.key c.args.value c.args.block (get_or s place 0) c.requires.order.holds.map.laid c.requires.block (slice_get-get_or s place 0 lt))

apart : (c : After-from) (f : Entries) (u v : Blocks) → HoldsApart (chain_part c.args.self.now) c.args.words.now f u v
    → HoldsApart (chain_part c.args.self.now) (front c) (entry_map.insert f c.args.key c.args.value) (set.insert u c.args.block) v
apart c f u v hold =
    put_apart hold
    (c.requires.absent f u hold.map) c.requires.block (unused (set.contains u c.args.block) refl) (c.requires.lacks v hold.free_lists) (is_front c)
  where
    unused : (m : Bool) → set.contains u c.args.block ≡ m → set.contains u c.args.block ≡ false
    unused false e = e
    unused true e = absurd (c.requires.unused (f, u, hold.map, e))

pub returns-clause-put : goal.returns-clause-put
unfolding front
returns-clause-put c = apart c

pub returns-clause-frame : goal.returns-clause-frame
unfolding front
returns-clause-frame c =
    let put = is_front c in
    let o = c.requires.order in
    record {
      count = put.count;
      same = λ a no. put.others a (λ e. no (inl e)) (λ m. no (inr (inl (
        c.args.block,
        inr (
          entry_map.insert o.entries c.args.key c.args.value,
          set.insert o.used c.args.block,
          (apart c o.entries o.used o.free o.holds).map,
          in_here o.used c.args.block,
        ),
        m,
      ))));
    }
