use Rattle.io_ends.proofs.Common.{arith, ap, ◌∙◌, ◌≡◌, sym, take, drop, common_steps}
use Rattle.io_ends.proofs.Pieces.{prefix_and_rest}
use Rattle.io_ends.proofs.memory.MemSourceSource.read.Goals as goal

pub returns-clause-bytes : goal.returns-clause-bytes
returns-clause-bytes c =
    let bytes = c.self.inside.bytes.items in
    let n = c.min-n.result in
    let piece : c.copy_from_slice.new.self ≡ take n (drop c.self.inside.at bytes) = grind (arith, common_steps) in (
      sym (ap (λ s. s.left) c.self.view_is)
          ∙ prefix_and_rest bytes c.copy_from_slice.new.self (drop n c.args.buf.now) c.self.inside.at n piece
          (grind (arith, common_steps)),
      grind (arith, common_steps),
    )
