-- A block put in front of its bucket's chain.
use Rattle.txn_hash_map.proofs.Common.{◌≡◌, ◌≢◌, ℕ, ◌+◌, ◌^◌, ◌<◌, ◌≤◌, inl, inr, List, [], ◌∷◌, ◌++◌, length, slice_get, slice_set, Some, sym, ap, ◌∙◌, subst}
use Rattle.txn_hash_map.proofs.Common.{arith, length-set, Read, Trace, after, Fits, SomeFits, InEach, Leads, length-after, get_set_same, get_set_other}
use Rattle.txn_hash_map.proofs.Common.{EndsWithWrite, AppendsOnly, AppendsReads, after_write_end, fits_write_end, sees_then, sees_write, only_write, only_then}
use Rattle.txn_hash_map.proofs.Common.{block_at, IsInBlock, ChainMap, bucket_of, IsLaid, IsBucket, IsPutInFront, IsBucketOrIn}
use Rattle.txn_alloc.proofs.Common.{read_there, after_read, fits_front, sees_read, only_read}
use Rattle.txn_hash_map.proofs.Cells.{bucket_below}

pub bucket_is : (map : ChainMap) (key p : ℕ) → p ≡ map.buckets + bucket_of key → IsBucket map p
bucket_is map key p e = record { low = omega arith; high = omega (arith, bucket_below key) }

-- where the words lie that are written
pub record Room (map : ChainMap) (key b n : ℕ) : Type 0 where
  pub bucket : map.buckets + bucket_of key < n
  pub block : block_at map.arena b + 4 ≤ n
  pub small : n ≤ 2 ^ 64

pub room : {map : ChainMap} (key b : ℕ) {n : ℕ} {G : List ℕ → Type 0} {t : Trace} → InEach n G t (IsLaid map) → SomeFits n G t
    → b < map.arena.blocks → Room map key b n
room {map} key b {n} {t} laid some lt =
    let s : List ℕ = after t some.0 in
    let l : IsLaid map s = laid.at some.0 some.1 in
    let long : length s ≡ n = length-after t some.0 ∙ some.1.count in
    record { bucket = omega (arith, l.buckets, bucket_below key); block = omega (arith, l.arena.blocks b lt); small = omega (arith, l.arena.places) }

pub put_state : {map : ChainMap} (key x b z : ℕ) {s : List ℕ} → IsLaid map s → b < map.arena.blocks → slice_get s (map.buckets + bucket_of key) ≡ Some z
    → IsPutInFront map key x b s
    (slice_set (slice_set (slice_set (slice_set s (block_at map.arena b) key) (block_at map.arena b + 1) x)
    (block_at map.arena b + 2) z) (map.buckets + bucket_of key) (b + 1))
put_state {map} key x b z {s} l lt e =
    let p : ℕ = map.buckets + bucket_of key in
    let a : ℕ = block_at map.arena b in
    let s1 : List ℕ = slice_set s a key in
    let s2 : List ℕ = slice_set s1 (a + 1) x in
    let s3 : List ℕ = slice_set s2 (a + 2) z in
    let s4 : List ℕ = slice_set s3 p (b + 1) in
    let long1 : length s1 ≡ length s = length-set s a key in
    let long2 : length s2 ≡ length s = length-set s1 (a + 1) x ∙ long1 in
    let long3 : length s3 ≡ length s = length-set s2 (a + 2) z ∙ long2 in
    let long4 : length s4 ≡ length s = length-set s3 p (b + 1) ∙ long3 in
    let room : a + 4 ≤ length s = l.arena.blocks b lt in
    let apart : (q : ℕ) → IsInBlock map.arena b q → q ≢ p = λ q k w. l.outside b q lt k (bucket_is map key q w) in
    let no : (q : ℕ) → a ≤ q → q < a + 4 → q ≢ p = λ q low high. apart q (record { low = low; high = high }) in
    record {
      count = long4;
      name = get_set_same s3 p (b + 1) (omega (arith, l.buckets, bucket_below key));
      key_there = get_set_other s3 p a (b + 1) (no a (omega arith) (omega arith)) ∙ get_set_other s2 (a + 2) a z (λ w. absurd (omega arith))
          ∙ get_set_other s1 (a + 1) a x (λ w. absurd (omega arith)) ∙ get_set_same s a key (omega (arith, room));
      value_there = get_set_other s3 p (a + 1) (b + 1) (no (a + 1) (omega arith) (omega arith))
          ∙ get_set_other s2 (a + 2) (a + 1) z (λ w. absurd (omega arith))
          ∙ get_set_same s1 (a + 1) x (omega (arith, room));
      next_there = get_set_other s3 p (a + 2) (b + 1) (no (a + 2) (omega arith) (omega arith)) ∙ get_set_same s2 (a + 2) z (omega (arith, room)) ∙ sym e;
      others = λ q ne out.
          get_set_other s3 p q (b + 1) ne
          ∙ get_set_other s2 (a + 2) q z (λ w. out (omega arith))
          ∙ get_set_other s1 (a + 1) q x (λ w. out (omega arith))
          ∙ get_set_other s a q key (λ w. out (omega arith));
    }

module _ (map : ChainMap) (key x b n : ℕ) (G : List ℕ → Type 0) (t t1 t2 t3 t4 t5 : Trace) (p q z y : ℕ) (is_bucket : p
    ≡ map.buckets + bucket_of key) (is_block : q ≡ block_at map.arena b) (is_name : y ≡ b + 1)
    (e1 : t1 ≡ t ++ Read p z ∷ []) (e2 : EndsWithWrite t1 t2 q key) (e3 : EndsWithWrite t2 t3 (q + 1) x)
    (e4 : EndsWithWrite t3 t4 (q + 2) z) (e5 : EndsWithWrite t4 t5 p y) where
  pub puts_front : InEach n G t (IsLaid map) → b < map.arena.blocks → Leads n G t t5 (IsPutInFront map key x b)
  puts_front laid lt = record {
    at = λ s fit.
        let a : ℕ = block_at map.arena b in
        let fit1 : Fits n G t1 s = fits_write_end n G t1 t2 q key s e2
        (fits_write_end n G t2 t3 (q + 1) x s e3 (fits_write_end n G t3 t4 (q + 2) z s e4 (fits_write_end n G t4 t5 p y s e5 fit))) in
        let whole : Fits n G (t ++ Read p z ∷ []) s = subst (λ w. Fits n G w s) e1 fit1 in
        let fit0 : Fits n G t s = fits_front n G t (Read p z ∷ []) s whole in
        let there : slice_get (after t s) (map.buckets + bucket_of key) ≡ Some z =
        ap (slice_get (after t s)) (sym is_bucket) ∙ read_there t s p z whole.legal in
        let r1 : after t1 s ≡ after t s = ap (λ w. after w s) e1 ∙ after_read t s p z in
        let r2 : after t2 s ≡ slice_set (after t s) a key = after_write_end t1 t2 q key s e2
        ∙ ap (λ w. slice_set w q key) r1 ∙ ap (λ w. slice_set (after t s) w key) is_block in
        let r3 : after t3 s ≡ slice_set (slice_set (after t s) a key) (a + 1) x =
        after_write_end t2 t3 (q + 1) x s e3 ∙ ap (λ w. slice_set w (q + 1) x) r2 ∙ ap (λ w. slice_set (slice_set (after t s) a key) (w + 1) x) is_block in
        let r4 : after t4 s ≡ slice_set (slice_set (slice_set (after t s) a key) (a + 1) x) (a + 2) z =
        after_write_end t3 t4 (q + 2) z s e4 ∙ ap (λ w. slice_set w (q + 2) z) r3
        ∙ ap (λ w. slice_set (slice_set (slice_set (after t s) a key) (a + 1) x) (w + 2) z) is_block in
        let r5 : after t5 s ≡ slice_set (slice_set (slice_set (slice_set (after t s) a key) (a + 1) x) (a + 2) z) (map.buckets + bucket_of key) (b + 1) =
        after_write_end t4 t5 p y s e5 ∙ ap (λ w. slice_set w p y) r4
        ∙ ap (λ w. slice_set (slice_set (slice_set (slice_set (after t s) a key) (a + 1) x) (a + 2) z) w y) is_bucket
        ∙ ap (λ w. slice_set (slice_set (slice_set (slice_set (after t s) a key) (a + 1) x) (a + 2) z) (map.buckets + bucket_of key) w) is_name in
        subst (IsPutInFront map key x b (after t s)) (sym r5) (put_state key x b z (laid.at s fit0) lt there);
  }

  pub front_only : AppendsOnly t t5 (IsBucketOrIn map key b)
  front_only =
      let own : ℕ → Type 0 = IsBucketOrIn map key b in
      only_then own t t1 t5 (only_read own t t1 p z e1)
      (only_then own t1 t2 t5 (only_write own t1 t2 q key e2 (inr (omega arith)))
      (only_then own t2 t3 t5 (only_write own t2 t3 (q + 1) x e3 (inr (omega arith)))
      (only_then own t3 t4 t5 (only_write own t3 t4 (q + 2) z e4 (inr (omega arith)))
      (only_write own t4 t5 p y e5 (inl is_bucket)))))

  pub front_reads : AppendsReads t t5 (IsBucketOrIn map key b)
  front_reads =
      let seen : ℕ → Type 0 = IsBucketOrIn map key b in
      sees_then seen t t1 t5 (sees_read seen t t1 p z e1 (inl is_bucket))
      (sees_then seen t1 t2 t5 (sees_write seen t1 t2 q key e2 (inr (omega arith)))
      (sees_then seen t2 t3 t5 (sees_write seen t2 t3 (q + 1) x e3 (inr (omega arith)))
      (sees_then seen t3 t4 t5 (sees_write seen t3 t4 (q + 2) z e4 (inr (omega arith)))
      (sees_write seen t4 t5 p y e5 (inl is_bucket)))))
