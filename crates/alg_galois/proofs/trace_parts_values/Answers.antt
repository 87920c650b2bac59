use Rattle.alg_galois.proofs.FieldTraces.{prime_traces}
use Rattle.alg_galois.proofs.SubfieldTraces.{subfield_traces, towers_over_prime}
use Rattle.alg_galois.proofs.trace_parts_values.Goals as goal

pub returns-clause-constants : goal.returns-clause-constants
returns-clause-constants c = λ F W a va.
    let (t, e) = (prime_traces F W).trace_is_image a va in
    let (s, f) = (prime_traces F W).norm_is_image a va in
    ((t.0, t.1, e), (s.0, s.1, f))

pub returns-clause-parts : goal.returns-clause-parts
returns-clause-parts c = λ F W. (prime_traces F W).trace_parts

pub returns-clause-over : goal.returns-clause-over
returns-clause-over c = λ E F V W m D. (subfield_traces E F V W m D).trace_parts

pub returns-clause-traces : goal.returns-clause-traces
returns-clause-traces c = λ E F V W m D a va.
    let (b, e) = (subfield_traces E F V W m D).trace_is_image a va in
    (b.0, b.1, e, (towers_over_prime E F V W m D).traces a b.0 va b.1 e)

pub returns-clause-norms : goal.returns-clause-norms
returns-clause-norms c = λ E F V W m D a va.
    let (b, e) = (subfield_traces E F V W m D).norm_is_image a va in
    (b.0, b.1, e, (towers_over_prime E F V W m D).norms a b.0 va b.1 e)
