-- The first fault of a text is its verdict.
use Rattle.std.proofs.Common.{ℕ, List}
use Rattle.lat_audit.specs.Readings.{Content, Header, IsDump, lattice_of}
use Rattle.lat_audit.specs.Verdicts.{None, IsReducible, HoldsEmbeddings, Judges}
use Rattle.lat_audit.specs.Verdicts.Judges.{bad_text, bad_field as judged_field, bad_map as judged_map, identity, prime_subfield, inverse, transitivity, intersection, no_memory}
use Rattle.lat_audit.specs.PrivateFaults.{FieldFault, MapFault}
use Rattle.lat_audit.specs.PrivateReadings.{Stops}
use Rattle.lat_audit.specs.PrivateRules.{RuleFault}
use Rattle.lat_audit.specs.PrivateRules.RuleFault.{no_identity, no_prime_subfield, no_inverse, no_composition, no_intersection}
use Rattle.lat_audit.specs.PrivateVerdicts.{verdict_with, ContentFault, TextFault}
use Rattle.lat_audit.specs.PrivateVerdicts.ContentFault.{bad_field, bad_map, bad_rule}
use Rattle.lat_audit.specs.PrivateVerdicts.TextFault.{bad_line, bad_content}
use Rattle.lat_audit.specs.declared.faults.Fault.{Fault}
use Rattle.lat_audit.specs.declared.faults.Fault.TheVariants as fault

module _ (text : List ℕ) where
  of_line : (f : Fault) → Stops Header 1 text f → Judges text (verdict_with f)
  of_line (fault.Text line) stop = bad_text stop
  of_line (fault.Field i) stop = absurd stop
  of_line (fault.Map i j) stop = absurd stop
  of_line (fault.Rule r i j k) stop = absurd stop
  of_line fault.NoMemory stop = no_memory

  module _ (c : Content) (dump : IsDump text c) where
    of_field : (f : Fault) → FieldFault c.rows f → Judges text (verdict_with f)
    of_field (fault.Text line) h = absurd h
    of_field (fault.Field i) h = judged_field c dump h
    of_field (fault.Map i j) h = absurd h
    of_field (fault.Rule r i j k) h = absurd h
    of_field fault.NoMemory h = no_memory

    of_map : (f : Fault) → None (IsReducible c.rows) → MapFault c.rows c.images f
        → Judges text (verdict_with f)
    of_map (fault.Text line) fields h = absurd h
    of_map (fault.Field i) fields h = absurd h
    of_map (fault.Map i j) fields h = judged_map c dump fields h
    of_map (fault.Rule r i j k) fields h = absurd h
    of_map fault.NoMemory fields h = no_memory

    of_rule : (f : Fault) → HoldsEmbeddings text c → RuleFault (lattice_of c) f
        → Judges text (verdict_with f)
    of_rule f holds (no_identity first) = identity c holds first
    of_rule f holds (no_prime_subfield identities first prime) =
        prime_subfield c (record { embeddings = holds; kept = identities }) first prime
    of_rule f holds (no_inverse identities primes first) =
        inverse c (record { before = record { embeddings = holds; kept = identities }; kept = primes }) first
    of_rule f holds (no_composition identities primes inverses first) =
        transitivity c (record {
          before = record { before = record { embeddings = holds; kept = identities }; kept = primes };
          kept = inverses;
        }) first
    of_rule f holds (no_intersection identities primes inverses compositions first) =
        intersection c (record {
          before = record {
            before = record { before = record { embeddings = holds; kept = identities }; kept = primes };
            kept = inverses;
          };
          kept = compositions;
        }) first

    of_content : (f : Fault) → ContentFault c f → Judges text (verdict_with f)
    of_content f (bad_field h) = of_field f h
    of_content f (bad_map fields h) = of_map f fields h
    of_content f (bad_rule fields images h) =
        of_rule f (record { dump = dump; fields = fields; maps = images }) h

  -- **the first fault of a text is its verdict**
  pub fault_judges : (f : Fault) → TextFault text f → Judges text (verdict_with f)
  fault_judges f (bad_line stop) = of_line f stop
  fault_judges f (bad_content c dump h) = of_content c dump f h
