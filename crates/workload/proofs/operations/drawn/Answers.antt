use Rattle.std.proofs.Common.{◌≡◌, ℕ, ap, ◌∙◌}
use Rattle.operation.specs.Ranges.{is_in_range}
use Rattle.workload.specs.Operations.{drawn_operation, drawn_guard}
use Rattle.workload.proofs.Choices.{drawn_in}
use Rattle.workload.proofs.operations.drawn.Goals as goal

pub invariant_of-result : goal.invariant_of-result
invariant_of-result c =
    let x = c.args.draws.now.x in
    let guard : c.guard.result ≡ drawn_guard x = c.guard.ensures ∙ c.choose-c.ensures.guard in
    let op : c.operation.result ≡ drawn_operation x = c.operation.ensures ∙ c.choose-c.ensures.operation in
    record {
      in_range =
          ap (λ (n : ℕ). is_in_range n c.operation.result) guard ∙ ap (is_in_range (drawn_guard x)) op ∙ drawn_in x;
    }
