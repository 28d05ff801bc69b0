use Rattle.order_rebuild.proofs.Common.{◌≡◌, ℕ, suc, ◌-◌, sym, ◌∙◌, subst, arith, heap_items, base_at, last_of, IsStopped, AreStopped}
use Rattle.order_rebuild.proofs.Befores.{before_at}
use Rattle.order_rebuild.proofs.Waits.{index_is, own_first, own_down, line_of, stopped_first, stopped_down, ready_same, ready_after}
use Rattle.order_rebuild.proofs.ready.let_go.Goals as goal

pub down-init : goal.down-init
down-init c =
    let l = c.args.lines.now in let r = c.requires in
    let at : c.index-at.result.now ≡ last_of l c.args.p = index_is l.last.items c.args.p c.index-at.result.now (let t =
    r.inside in omega (arith, l.last.ok.0)) c.index-at.ensures in record {
      own = λ e is. own_first l r.rows c.args.left.now c.args.p r.inside e (sym at ∙ is);
      gone = r.gone;
      stopped = subst (λ (n : ℕ). AreStopped l c.args.left.now c.args.next.now c.args.p n) (sym at)
          (stopped_first l r.rows c.args.left.now c.args.p r.inside c.args.next.now r.stopped);
      waits = r.waits;
      closed = r.closed;
      ready = ready_same l c.args.wait.now (heap_items c.args.ready.now);
    }

pub index-requires : goal.index-requires
index-requires c = let t = c.down-test.true in let o = c.down.invariant.own (c.down.at - 1) (omega arith) in omega (arith, o.0, c.requires.rows.bases)

pub advance-requires-clause-line : goal.advance-requires-clause-line
advance-requires-clause-line c =
    let l = c.args.lines.now in let t = c.down-test.true in let o = c.down.invariant.own (c.down.at - 1) (omega arith) in
    let at : c.index.result.now ≡ base_at l (c.down.at - 1) =
    index_is l.base.items (c.down.at - 1) c.index.result.now (omega (arith, o.0, l.base.ok.0, c.requires.rows.bases)) c.index.ensures in
    subst (λ (n : ℕ). base_at l n ≡ n) (sym at) (line_of l c.requires.rows c.args.left.now c.args.p (c.down.at - 1) o.0).1

pub index-at-requires-in-down : goal.index-at-requires-in-down
index-at-requires-in-down c = let t = c.down-test.true in let o = c.down.invariant.own (c.down.at - 1) (omega arith) in
    omega (arith, o.0, c.args.lines.now.before.ok.0, c.requires.rows.chains.count)

pub down-smaller : goal.down-smaller
down-smaller c =
    let l = c.args.lines.now in let t = c.down-test.true in let o = c.down.invariant.own (c.down.at - 1) (omega arith) in
    let at : c.index-at-in-down.result.now ≡ before_at l (c.down.at - 1) =
    index_is l.before.items (c.down.at - 1) c.index-at-in-down.result.now (omega (arith, o.0, c.requires.rows.chains.count)) c.index-at-in-down.ensures in
    omega (arith, c.requires.rows.chains.below (c.down.at - 1) o.0)

pub down-preserved : goal.down-preserved
down-preserved c =
    let l = c.args.lines.now in let t = c.down-test.true in let i = c.down.invariant in let e : ℕ = c.down.at - 1 in
    let is : c.down.at ≡ suc e = omega arith in
    let o = i.own e is in let a = c.in_ok-advance.ensures in
    let at : c.index-at-in-down.result.now ≡ before_at l e =
    index_is l.before.items e c.index-at-in-down.result.now (omega (arith, o.0, c.requires.rows.chains.count)) c.index-at-in-down.ensures in
    let line : c.index.result.now ≡ base_at l e =
    index_is l.base.items e c.index.result.now (omega (arith, o.0, l.base.ok.0, c.requires.rows.bases)) c.index.ensures in record {
      own = λ k s. own_down l c.requires.rows c.args.left.now c.args.p e k o (sym at ∙ s);
      gone = a.gone;
      stopped = subst (λ (n : ℕ). AreStopped l c.args.left.now c.advance.new.next c.args.p n) (sym at)
          (stopped_down l c.requires.rows c.args.left.now c.args.p c.down.next c.advance.new.next e o
          (subst (λ (n : ℕ). AreStopped l c.args.left.now c.down.next c.args.p n) is i.stopped)
          (subst (λ (n : ℕ). IsStopped l c.args.left.now c.advance.new.next n) line a.stopped) (λ b n. a.others b (λ s. n (s ∙ line))));
      waits = a.waits;
      closed = a.closed;
      ready = ready_after l c.args.wait.now c.down.wait c.advance.new.wait (heap_items c.args.ready.now)
          (heap_items c.down.ready) (heap_items c.advance.new.ready) i.ready a.ready;
    }

pub returns-clause-stopped : goal.returns-clause-stopped
returns-clause-stopped c = λ b lt is go. let k = c.down.invariant.stopped b lt is go in let t = c.down-test.false in (k.0, omega (arith, k.1), k.2, k.3)
