-- A call of a pass, and its item.
use Rattle.worker_pool.proofs.Common.{◌≡◌, ℕ, ◌+◌, ◌<◌, List, [], ◌∷◌, ◌++◌, All, length, slice_get, Some, refl, sym, ap, ◌∙◌, subst, arith, length-append}
use Rattle.worker_pool.proofs.Common.{slice_index, All-nil, All-push, slice_get_within, script_at, Entry, IsGood, ClearingInput, BooksShape, words_of}
use Rattle.worker_pool.proofs.Common.{ScriptMeans, IsGoodFor, GetsEntry, Reply, PassView, DeskView, Done, AreMadeBy, HasMade, IsScriptEntry, IsNext}
use Rattle.txn_words.proofs.Common.{after}
use Rattle.order_rebuild.proofs.Common.{get_cases}
use Rattle.txn_commit.proofs.Common.{ListsUses}
use Rattle.std.proofs.Common.{◌⊎◌, inl, inr, ⊎_elim}
use Rattle.history_model.specs.declared.item.LockUse.{LockUse}
use Rattle.history_model.specs.declared.view.Phase.TheVariants.{Idle}
use Rattle.txn_commit.specs.declared.transaction.Receipt.{Receipt}

-- what stands at a place of two lists of one length, each with one more: what stood there, or what came last
pub one_more : {X Y : Type 0} (xs : List X) (ys : List Y) (x u : X) (y v : Y) → length xs ≡ length ys → (k : ℕ)
    → slice_get (xs ++ x ∷ []) k ≡ Some u → slice_get (ys ++ y ∷ []) k ≡ Some v
    → ((slice_get xs k ≡ Some u) × (slice_get ys k ≡ Some v)) ⊎ ((k ≡ length xs) × ((x ≡ u) × (y ≡ v)))
one_more xs ys x u y v same k at_x at_y = ⊎_elim
    (λ a. ⊎_elim (λ b. inl (a.1, b.1)) (λ b. absurd (omega (arith, a.0, b.0, same))) (get_cases ys y v k at_y))
    (λ a. ⊎_elim (λ b. absurd (omega (arith, a.0, b.0, same))) (λ b. inr (a.0, (a.1, b.1))) (get_cases ys y v k at_y))
    (get_cases xs x u k at_x)

module _ (desk : DeskView BooksShape) (input : ClearingInput) where
  -- the item is what the receipt says of a call
  pub record IsReceipted (who : ℕ) (receipt : Receipt Reply) (item : Done) : Type 0 where
    pub seat : item.seat ≡ who
    pub call : item.call ≡ receipt.call
    pub uses : item.uses.items ≡ receipt.uses.items
    pub restarts : item.restarts ≡ receipt.restarts
    pub reply : item.reply ≡ receipt.answer

  module _ (who call : ℕ) (old new : List Entry) (receipt : Receipt Reply) (item : Done)
      (gets : GetsEntry (IsGood (words_of desk.shape) (IsGoodFor desk.shape))
      (ScriptMeans desk.shape (script_at input.callers item.caller item.index)) who call old new receipt) (its : IsReceipted who receipt item) where
    made_now : IsScriptEntry desk.shape input gets.entry item
    made_now = record {
      is_of = record {
        seat_is = gets.made_by ∙ sym its.seat;
        call_is = gets.call_is.0 ∙ sym gets.call_is.1 ∙ sym its.call;
        restarts_are = sym gets.restarts_are ∙ sym its.restarts;
        uses_are = subst (λ (l : List LockUse). ListsUses gets.entry.uses l) (sym its.uses) gets.uses_are;
      };
      meaning = λ s good legal.
          subst (λ (r : Reply). ScriptMeans desk.shape (script_at input.callers item.caller item.index) s gets.entry.kept
          r (after gets.entry.trace s)) (sym its.reply) (gets.meaning s good legal);
    }

    one_more_made : (done : List Done) → AreMadeBy desk.shape input old done → AreMadeBy desk.shape input new (done ++ item ∷ [])
    one_more_made done made = subst (λ (l : List Entry). AreMadeBy desk.shape input l (done ++ item ∷ [])) (sym gets.seen) (record {
      as_many = omega (arith, made.as_many, length-append done (item ∷ []), length-append old (gets.entry ∷ []));
      each = λ k x e at_x at_e. ⊎_elim (λ t. made.each k x e t.0 t.1)
          (λ t. subst (λ (y : Done). IsScriptEntry desk.shape input e y) t.1.0
          (subst (λ (f : Entry). IsScriptEntry desk.shape input f item) t.1.1 made_now))
          (one_more done old item x gets.entry e made.as_many k at_x at_e);
    })

    -- a pass made one item more
    pub made_more : (done after_it : List Done) (pass next : PassView) → after_it ≡ done ++ item ∷ [] → pass.view.seen ≡ old → next.view.seen ≡ new
        → next.table ≡ pass.table → next.view.phase ≡ Idle → next.view.who ≡ pass.view.who → next.view.call ≡ pass.view.call + 1
        → pass.view.call + 1 ≡ call → item.restarts < desk.seats
        → HasMade desk input who pass done → HasMade desk input who next after_it
    made_more done after_it pass next is was now table idle same called its_call few h = record {
      of_table = table ∙ h.of_table;
      idle = idle;
      number_is = same ∙ h.number_is;
      calls = omega (arith, called, h.calls, ap length is, length-append done (item ∷ []));
      seats = subst (λ (l : List Done). All (λ x. x.seat ≡ who) l) (sym is) (All-push (λ (x : Done). x.seat ≡ who) done item h.seats its.seat);
      numbers = λ k x at. ⊎_elim (λ t. h.numbers k x t.0)
          (λ t. ap (λ (y : Done). y.call) (sym t.1.0) ∙ omega (arith, its.call, gets.call_is.1, its_call, h.calls, t.0))
          (one_more done done item x item x (λ i. length done) k (ap (λ (l : List Done). slice_get l k) (sym is)
          ∙ at) (ap (λ (l : List Done). slice_get l k) (sym is) ∙ at));
      made = subst (λ (l : List Done). AreMadeBy desk.shape input next.view.seen l) (sym is)
          (subst (λ (s : List Entry). AreMadeBy desk.shape input s (done ++ item ∷ [])) (sym now)
          (one_more_made done (subst (λ (s : List Entry). AreMadeBy desk.shape input s done) was h.made)));
      below = subst (λ (l : List Done). All (λ x. x.restarts < desk.seats) l) (sym is)
          (All-push (λ (x : Done). x.restarts < desk.seats) done item h.below few);
    }

  -- a new pass made nothing
  pub made_nothing : (who : ℕ) (pass : PassView) (done : List Done) → pass.table ≡ desk.table → pass.view.phase ≡ Idle
      → pass.view.who ≡ who ∷ [] → pass.view.call ≡ 0 → pass.view.seen ≡ []
      → done ≡ [] → HasMade desk input who pass done
  made_nothing who pass done table idle number calls seen is = record {
    of_table = table;
    idle = idle;
    number_is = number;
    calls = calls ∙ sym (ap length is);
    seats = subst (λ (l : List Done). All (λ x. x.seat ≡ who) l) (sym is) (All-nil (λ (x : Done). x.seat ≡ who));
    numbers = λ k x at. absurd (omega (arith, slice_get_within done k x at, ap length is));
    made = record {
      as_many = ap length is ∙ sym (ap length seen);
      each = λ k x e at there. absurd (omega (arith, slice_get_within done k x at, ap length is));
    };
    below = subst (λ (l : List Done). All (λ x. x.restarts < desk.seats) l) (sym is) (All-nil (λ (x : Done). x.restarts < desk.seats));
  }

-- what is made by a pass of one number is made by it under another name of the number
pub made_as : {desk : DeskView BooksShape} {input : ClearingInput} {who same : List ℕ} {pass : PassView} {done : List Done} → who ≡ same
    → HasMade desk input (slice_index who 0) pass done → HasMade desk input (slice_index same 0) pass done
made_as {desk} {input} {pass = pass} {done} is = subst (λ (w : List ℕ). HasMade desk input (slice_index w 0) pass done) is

-- a pass that made no call
pub same_next : {pass : PassView} → pass.view.phase ≡ Idle → IsNext pass pass
same_next idle = record { table_stays = refl; idle = idle; who_stays = refl }

-- one call after another
pub next_then : {old mid new : PassView} → IsNext old mid → IsNext mid new → IsNext old new
next_then first second = record {
  table_stays = second.table_stays ∙ first.table_stays;
  idle = second.idle;
  who_stays = second.who_stays ∙ first.who_stays;
}
