use Rattle.std.proofs.Common.{◌%◌, length, ap₂, ◌∙◌}
use Rattle.ff_field.specs.PrivateTables.{scalar_sum}
use Rattle.ff_field.proofs.TraceRows.{trace_by_row}
use Rattle.ff_field.proofs.fields.Field.trace.Goals as goal

pub returns-clause-value : goal.returns-clause-value
returns-clause-value c =
    let K = c.args.self.now in
    let traces = c.traces.result.now in
    trace_by_row K c.degree-degree.ensures.whole.finite traces c.args.a.now c.scalar_product.result c.traces.ensures c.requires
    (c.scalar_product.ensures.value ∙ ap₂ (λ b q. scalar_sum (length b) b traces % q) c.digits.ensures.value c.prime.ensures.value)
