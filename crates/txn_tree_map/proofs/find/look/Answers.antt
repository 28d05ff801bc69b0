use Rattle.txn_tree_map.proofs.Common.{◌≡◌, ◌+◌, ◌-◌, ◌<◌, Some, inl, inr, sym, ap, ◌∙◌, arith, slice_get, rules, goes_call, goes_then, goes_as, block_at}
use Rattle.txn_tree_map.proofs.Common.{looks_at, looks_map, looks_read, looks_wider, HasTop, IsPlace, IsPlaceOrKey, IsNamed, IsEnd, laid_block, each_now}
use Rattle.txn_tree_map.proofs.Common.{some_since}
use Rattle.txn_words.proofs.Looks.{looks_still}
use Rattle.txn_tree_map.proofs.Searches.SearchCalls.{top_within, top_below}
use Rattle.txn_tree_map.proofs.find.look.Goals as goal

pub read-requires-clause-within : goal.read-requires-clause-within
read-requires-clause-within g c =
    top_within c.args.map.now (g.met.W.Words.fits c.args.w.now c.requires.ready.sound)
    (each_now c.requires.top)

pub returns-then-name-eq0 : goal.returns-then-name-eq0
returns-then-name-eq0 g c = record {
  named = search rules;
  end =
      looks_map _ _ _ (IsPlace c.args.place) _ _ (IsEnd c.args.place) (λ s h. h ∙ ap Some c.if-name-eq0.true)
      (looks_at _ _ _ _ c.args.place c.in_ok-name.name c.in_ok-name.ensures.value);
  block = search rules;
  goes_on = goes_as (goes_call c.in_ok-name.ensures) (search rules);
}

pub prove-unreachable-requires : goal.prove-unreachable-requires
prove-unreachable-requires g c =
    let m = c.args.map.now in
    let name = c.in_ok-name.name in
    let some = some_since g.W.Words g.W.Shape.Shape c.in_ok-name.ensures.shape
    (g.met.W.Words.fits c.read.new.self c.in_ok-name.ensures.sound) in
    let seen = looks_still _ _ _ (IsPlace c.args.place) _ (λ s. slice_get s c.args.place ≡ Some name)
    (HasTop m c.args.place) (each_now c.requires.top)
    (looks_at _ _ _ _ c.args.place name c.in_ok-name.ensures.value) in
    let one_more : name ≡ (name - 1) + 1 = omega (arith, c.if-name-eq0.false) in
    let lt : name - 1 < m.arena.blocks =
    top_below m some c.args.place (name - 1) (record { at = λ s fit. ((seen.holds s fit).0, (seen.holds s fit).1 ∙ ap Some one_more) }) in
    omega arith

pub read-requires-2-clause-within : goal.read-requires-2-clause-within
read-requires-2-clause-within g c =
    let m = c.args.map.now in
    let lt : c.in_ok-name.name - 1 < m.arena.blocks = omega arith in
    let in_list = laid_block m.arena _ _ _ (g.met.W.Words.fits c.args.w.now c.requires.ready.sound)
    (c.in_ok-name.name - 1) (record { at = λ s fit. (c.requires.top.at s fit).laid.arena }) lt in
    omega (arith, in_list.0, c.place_of.ensures, ap g.W.Shape.Shape.word_count c.in_ok-name.ensures.shape)

pub returns : goal.returns
returns g c = record {
  named =
      let m = c.args.map.now in
      let b = c.in_ok-name.name - 1 in
      let one_more : c.in_ok-name.name ≡ b + 1 = omega (arith, c.if-name-eq0.false) in
      let lt : b < m.arena.blocks = omega arith in
      let is_block : c.place_of.result ≡ block_at m.arena b = c.place_of.ensures in
      looks_map _ _ _ (IsPlaceOrKey m c.args.place b) _ _ (IsNamed m c.args.place b c.in_ok-key.key)
      (λ s h. (h.0 ∙ ap Some one_more, ap (slice_get s) (sym is_block) ∙ h.1))
      (looks_read _ _ _ (IsPlaceOrKey m c.args.place b) _ _ _ c.in_ok-key.key _
      (looks_wider _ _ _ _ (IsPlace c.args.place) (IsPlaceOrKey m c.args.place b) _ (λ s p a k. inl k)
      (looks_at _ _ _ _ c.args.place c.in_ok-name.name c.in_ok-name.ensures.value)) c.in_ok-key.ensures.value (λ s p. inr is_block));
  end = search rules;
  block = search rules;
  goes_on = goes_as (goes_then (goes_call c.in_ok-name.ensures) (goes_call c.in_ok-key.ensures)) (search rules);
}

pub returns-in_err-name-clause-goes_on : goal.returns-in_err-name-clause-goes_on
returns-in_err-name-clause-goes_on g c = goes_as (goes_call c.in_err-name.ensures) (search rules)

pub returns-in_err-key-clause-goes_on : goal.returns-in_err-key-clause-goes_on
returns-in_err-key-clause-goes_on g c = goes_as (goes_then (goes_call c.in_ok-name.ensures) (goes_call c.in_err-key.ensures)) (search rules)
