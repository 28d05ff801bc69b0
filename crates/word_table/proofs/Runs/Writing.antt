-- Which words the steps of a call write, kind by kind; and that calls which share no lock have none in common.
use Rattle.word_table.proofs.Common.{◌≡◌, ◌≢◌, ◌⊎◌, inl, inr, ℕ, ◌-◌, ◌<◌, Bool, true, false, List, [], ◌∷◌, ◌++◌, Option, Some, None, slice_index, refl, sym}
use Rattle.word_table.proofs.Common.{ap, ◌∙◌, subst, arith, ◌==◌, if◌then◌else◌, LOCKS, View, lock_of_word, has, without_first, Knows, writer_word, Notes}
use Rattle.word_table.proofs.Common.{number, HasClaim, has-join_same, AskedFor, after_asking, after_meeting, own, lock_near, Step, SetReadBit, ClearReadBit}
use Rattle.word_table.proofs.Common.{LoadWriter, ClaimWriter, ScanRow, ReleaseWriter, BeginCall, LoadValue, StoreValue, UndoStore, CommitCall, ClearStamp}
use Rattle.word_table.proofs.Common.{DrawStamp, AnnounceStamp, JudgeStamp, LoadCauseStamp, LoadVersion, StoreVersion, May, action_of, view_after, IsSound}
use Rattle.values_rule.proofs.Common.{oldest}
use Rattle.std.proofs.Math.Nat.{mod-lt}
use Rattle.values_rule.proofs.Notes.{oldest_first, oldest_more, oldest_one}
use Rattle.word_table.specs.Meetings.{AsksApart}
use Rattle.word_table.specs.Writes.{HaveNoCommonWord, IsAskedWord, IsOwnWord, IsWordOfLock, Loads, MayWrite, WritesOwnAndAsked}
use Rattle.word_table.proofs.Runs.Meetings.{reached_sound}

-- a word that is noted last is noted
note_found : (a old : ℕ) (older : Notes) → (o : ℕ) × (oldest a (older ++ (a, old) ∷ []) ≡ Some o)
note_found a old older = by_found (oldest a older) refl where
  by_found : (found : Option ℕ) → oldest a older ≡ found → (o : ℕ) × (oldest a (older ++ (a, old) ∷ []) ≡ Some o)
  by_found (Some o) is = (o, oldest_more a older ((a, old) ∷ []) o is)
  by_found None is = (old, oldest_first a older ((a, old) ∷ []) is ∙ oldest_one a a old refl)

module _ (good : List ℕ → Type 0) (n : ℕ) (base ws : List ℕ) (vs : List View) (id : ℕ) (v : View)
    (s : IsSound good n base ws vs) (me : Knows vs id v) (a : ℕ) where
  abbrev now : Step → View
  now st = view_after st v (record { words = ws; views = vs })

  abbrev Allowed : View → Type 0
  Allowed w = MayWrite n v w a

  seats_are : (j : ℕ) → v.who ≡ j ∷ [] → v.seats ≡ n
  seats_are j who = (own n base ws vs id j v s.locks me who).seats

  number_is : (j : ℕ) → v.who ≡ j ∷ [] → number v ≡ j
  number_is j who = ap (λ (l : List ℕ). slice_index l 0) who

  -- a word of the own seat
  own_word : {L : Type 0} (j : ℕ) (w : View) → v.who ≡ j ∷ [] → IsOwnWord v.seats j a → L ⊎ Allowed w
  own_word j w who is = inr (inl (subst (λ m. IsOwnWord m (number v) a) (seats_are j who) (subst (λ i. IsOwnWord v.seats i a) (sym (number_is j who)) is)))

  -- a word of a lock that was asked for
  asked_word : {L : Type 0} (j k : ℕ) (w : View) → v.who ≡ j ∷ [] → AskedFor w k → IsWordOfLock v.seats k a → L ⊎ Allowed w
  asked_word j k w who asked is = inr (inr (inl (
    k,
    subst (λ l. l < LOCKS) asked.2 (mod-lt asked.0 (omega arith)),
    asked,
    subst (λ m. IsWordOfLock m k a) (seats_are j who) is,
  )))

  claim_asked : (k : ℕ) → HasClaim v k → AskedFor v k
  claim_asked k claim = s.locks.claims_were_asked id k v me claim

  claimed : {L : Type 0} (j l b : ℕ) (c : Bool) → v.who ≡ j ∷ [] → lock_of_word b ≡ l → (x y : View) → x.asked ≡ b ∷ v.asked → y.asked ≡ b ∷ v.asked
      → a ≡ writer_word v.seats l → L ⊎ Allowed (if c then x else y)
  claimed j l b true who lock x y p q at = asked_word j l x who (b, subst (λ m. has b m ≡ true) (sym p) (has-join_same b v.asked), lock) (inl at)
  claimed j l b false who lock x y p q at = asked_word j l y who (b, subst (λ m. has b m ≡ true) (sym q) (has-join_same b v.asked), lock) (inl at)

  writes : (st : Step) → May good st v → a ≡ (action_of st v).at → Loads st v ⊎ Allowed (now st)
  writes (SetReadBit j l b) may c = own_word j (now (SetReadBit j l b)) may.who
      (inr (inr (inr (l, subst (λ k. k < LOCKS) may.lock (mod-lt b (omega arith)), c))))
  writes (ClearReadBit j l) may c = own_word j (now (ClearReadBit j l)) may.who
      (inr (inr (inr (l, lock_near v l (s.locks.bits_were_asked id l v me may.bit), c))))
  writes (LoadWriter j l b) may c = inl (refl, λ w. refl)
  writes (ClaimWriter j l b) may c =
      let w : ℕ = slice_index ws (writer_word v.seats l) in
      claimed j l b (w == 0) may.who may.lock (record (after_asking v b) { claims = l ∷ v.claims; scans = without_first l v.scans })
      (after_meeting (after_asking v b) l (w - 1)) refl refl c
  writes (ScanRow j l i) may c = inl (refl, λ w. refl)
  writes (ReleaseWriter j l) may c =
      asked_word j l (now (ReleaseWriter j l)) may.releases.who (claim_asked l may.releases.claim) (inl c)
  writes (BeginCall j) may c = own_word j (now (BeginCall j)) may.who (inl c)
  writes (LoadValue j b) may c = inl (refl, λ w. refl)
  writes (StoreValue j b x) may c =
      asked_word j (lock_of_word b) (now (StoreValue j b x)) may.who (claim_asked (lock_of_word b) may.granted.0)
      (inr (inr (b, refl, c)))
  writes (UndoStore j b old) may c =
      let noted = note_found b old may.newest.0 in
      let held = s.values.undo.noted id b noted.0 v me (ap (oldest b) may.newest.1 ∙ noted.1) in
      asked_word j (lock_of_word b) (now (UndoStore j b old)) may.who (claim_asked (lock_of_word b) held.1.0)
      (inr (inr (b, refl, c)))
  writes (CommitCall j kept) may c = own_word j (now (CommitCall j kept)) may.who (inr (inl c))
  writes (ClearStamp j) may c = own_word j (now (ClearStamp j)) may.who (inr (inr (inl c)))
  writes (DrawStamp j) may c = inr (inr (inr (c, may.unjudged)))
  writes (AnnounceStamp j) may c = own_word j (now (AnnounceStamp j)) may.who (inr (inr (inl c)))
  writes (JudgeStamp j i) may c = inl (refl, λ w. refl)
  writes (LoadCauseStamp j i stamp) may c = inl (refl, λ w. refl)
  writes (LoadVersion j l) may c = inl (refl, λ w. refl)
  writes (StoreVersion j l x) may c =
      asked_word j l (now (StoreVersion j l x)) may.stores.who (claim_asked l may.claim) (inr (inl c))

pub writes_own_and_asked : (good : List ℕ → Type 0) (n : ℕ) (base : List ℕ) → WritesOwnAndAsked good n base
writes_own_and_asked good n base state place step old new r t =
    subst (λ w. Loads step old ⊎ MayWrite n old w (action_of step old).at) (sym t.reached)
    (writes good n base state.words state.views place old (reached_sound good n base state r) t.knows (action_of step old).at step t.may refl)

module _ (n i j a : ℕ) (v u : View) (i_below : i < n) (j_below : j < n) (other : i ≢ j) (apart : AsksApart v u) where
  own_own : IsOwnWord n i a → IsOwnWord n j a → ⊥
  own_own (inl x) (inl y) = other (omega arith)
  own_own (inl x) (inr (inl y)) = absurd (omega arith)
  own_own (inl x) (inr (inr (inl y))) = absurd (omega arith)
  own_own (inl x) (inr (inr (inr (l, near, y)))) = absurd (omega arith)
  own_own (inr (inl x)) (inl y) = absurd (omega arith)
  own_own (inr (inl x)) (inr (inl y)) = other (omega arith)
  own_own (inr (inl x)) (inr (inr (inl y))) = absurd (omega arith)
  own_own (inr (inl x)) (inr (inr (inr (l, near, y)))) = absurd (omega arith)
  own_own (inr (inr (inl x))) (inl y) = absurd (omega arith)
  own_own (inr (inr (inl x))) (inr (inl y)) = absurd (omega arith)
  own_own (inr (inr (inl x))) (inr (inr (inl y))) = other (omega arith)
  own_own (inr (inr (inl x))) (inr (inr (inr (l, near, y)))) = absurd (omega arith)
  own_own (inr (inr (inr (k, close, x)))) (inl y) = absurd (omega arith)
  own_own (inr (inr (inr (k, close, x)))) (inr (inl y)) = absurd (omega arith)
  own_own (inr (inr (inr (k, close, x)))) (inr (inr (inl y))) = absurd (omega arith)
  own_own (inr (inr (inr (k, close, x)))) (inr (inr (inr (l, near, y)))) = other (omega arith)

  locks_locks : IsAskedWord n v a → IsAskedWord n u a → ⊥
  locks_locks (k, close, asked, x) (l, near, also, y) = by_kind x y where
    same : k ≢ l
    same e = apart asked.0 also.0 asked.1 also.1 (asked.2 ∙ e ∙ sym also.2)

    by_kind : IsWordOfLock n k a → IsWordOfLock n l a → ⊥
    by_kind (inl x) (inl y) = same (omega arith)
    by_kind (inl x) (inr (inl y)) = absurd (omega arith)
    by_kind (inl x) (inr (inr (w, lock, y))) = absurd (omega arith)
    by_kind (inr (inl x)) (inl y) = absurd (omega arith)
    by_kind (inr (inl x)) (inr (inl y)) = same (omega arith)
    by_kind (inr (inl x)) (inr (inr (w, lock, y))) = absurd (omega arith)
    by_kind (inr (inr (z, its, x))) (inl y) = absurd (omega arith)
    by_kind (inr (inr (z, its, x))) (inr (inl y)) = absurd (omega arith)
    by_kind (inr (inr (z, its, x))) (inr (inr (w, lock, y))) = let one : z ≡ w = omega arith in same (sym its ∙ ap lock_of_word one ∙ lock)

-- a word of a seat is no word of a lock
own_lock : (n i k a : ℕ) → i < n → k < LOCKS → IsOwnWord n i a → IsWordOfLock n k a → ⊥
own_lock n i k a below close (inl x) (inl y) = absurd (omega arith)
own_lock n i k a below close (inl x) (inr (inl y)) = absurd (omega arith)
own_lock n i k a below close (inl x) (inr (inr (w, lock, y))) = absurd (omega arith)
own_lock n i k a below close (inr (inl x)) (inl y) = absurd (omega arith)
own_lock n i k a below close (inr (inl x)) (inr (inl y)) = absurd (omega arith)
own_lock n i k a below close (inr (inl x)) (inr (inr (w, lock, y))) = absurd (omega arith)
own_lock n i k a below close (inr (inr (inl x))) (inl y) = absurd (omega arith)
own_lock n i k a below close (inr (inr (inl x))) (inr (inl y)) = absurd (omega arith)
own_lock n i k a below close (inr (inr (inl x))) (inr (inr (w, lock, y))) = absurd (omega arith)
own_lock n i k a below close (inr (inr (inr (l, near, x)))) (inl y) = absurd (omega arith)
own_lock n i k a below close (inr (inr (inr (l, near, x)))) (inr (inl y)) = absurd (omega arith)
own_lock n i k a below close (inr (inr (inr (l, near, x)))) (inr (inr (w, lock, y))) = absurd (omega arith)

pub have_no_common_word : HaveNoCommonWord
have_no_common_word n i j a v u i_below j_below other apart (inl x) (inl y) = own_own n i j a v u i_below j_below other apart x y
have_no_common_word n i j a v u i_below j_below other apart (inl x) (inr y) = own_lock n i y.0 a i_below y.1 x y.3
have_no_common_word n i j a v u i_below j_below other apart (inr x) (inl y) = own_lock n j x.0 a j_below x.1 y x.3
have_no_common_word n i j a v u i_below j_below other apart (inr x) (inr y) = locks_locks n i j a v u i_below j_below other apart x y
