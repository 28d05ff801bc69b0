use Rattle.txn_words.proofs.Common.{◌≡◌, ◌<◌, length, inr, ap, ◌∙◌, subst, arith, count_writes, Trace}
use Rattle.txn_words.proofs.Listed.{follows_noted, map_ok, note_within, noted_at, shape_of, trace_of}
use Rattle.txn_words.proofs.plain.Plain.put_back.Goals as goal

pub at-a-requires : goal.at-a-requires
at-a-requires g c =
    let counts : length c.self.inside.undo.list ≡ count_writes c.args.self.now.trace =
    follows_noted _ _ _ _ _ _ c.self.invariant ∙ ap (λ (t : Trace). count_writes t) (ap trace_of c.self.view_is) in
    omega (arith, counts, c.requires.place)

pub put-requires : goal.put-requires
put-requires g c = record {
  within = subst (λ z. c.at-a.result.0 < g.S.Shape.word_count z) (ap shape_of c.self.view_is) (note_within _ _ _ _ c.self.invariant.within c.at-a.ensures);
}

pub returns-clause-back : goal.returns-clause-back
returns-clause-back g c = map_ok c.put.result
    (λ written. record {
      a = c.at-a.result.0;
      was = c.at-a.result.1;
      within = subst (λ z. c.at-a.result.0 < g.S.Shape.word_count z) (ap shape_of c.self.view_is) (note_within _ _ _ _ c.self.invariant.within c.at-a.ensures);
      note = noted_at g.S.Shape.word_count g.S.Shape.good _ _ _ _ _ c.self.view_is c.self.invariant.noted c.at-a.ensures;
      ends = inr (written.0, ap trace_of written.1);
    })
    c.put.ensures.ok
