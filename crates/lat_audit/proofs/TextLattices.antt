-- The lattice of a text that is a dump of fields and embeddings.
use Rattle.std.proofs.Common.{◌≡◌, ℕ, List, Result, Ok, Err, sym, ◌∙◌, subst}
use Rattle.std.specs.Prelude.{MatchResult}
use Rattle.alg_model.specs.Lattices.{Lattice, IsCompatible}
use Rattle.lat_audit.specs.Dumps.{dump_text}
use Rattle.lat_audit.specs.Readings.{Content, IsDump, lattice_of}
use Rattle.lat_audit.specs.Verdicts.{None, IsReducible, IsWrongImage, HoldsEmbeddings, IsDumped}
use Rattle.lat_audit.specs.PrivateRules.{KeepsRules}
use Rattle.lat_audit.specs.PrivateVerdicts.{ContentFault, TextFault}
use Rattle.lat_audit.specs.PrivateVerdicts.TextFault.{bad_content}
use Rattle.lat_audit.specs.declared.faults.Fault.{Fault}
use Rattle.lat_audit.proofs.ContentLattices.{content_compatible, content_dumped, content_is_dump}
use Rattle.lat_audit.proofs.ReadContents.{read_content}

module _ (text : List ℕ) (c : Content) where
  -- **where the lattice is compatible the text is its dump**
  pub compatible_dumped : HoldsEmbeddings text c → IsCompatible (lattice_of c)
      → IsDumped (lattice_of c) × (text ≡ dump_text (lattice_of c))
  compatible_dumped holds compatible =
      let (is, spelled) = read_content text c holds.dump in (
        content_dumped c is holds.fields holds.maps compatible,
        spelled ∙ content_is_dump c is holds.fields holds.maps,
      )

  -- **and it is compatible where it keeps the rules**
  pub kept_dumped : HoldsEmbeddings text c → KeepsRules (lattice_of c)
      → IsDumped (lattice_of c) × (text ≡ dump_text (lattice_of c))
  kept_dumped holds keeps =
      let (is, spelled) = read_content text c holds.dump in
      compatible_dumped holds (content_compatible c is holds.fields holds.maps keeps)

  -- what a dump holds is judged: its lattice, or its first fault
  pub text_judged : IsDump text c → (result : Result Lattice Fault)
      → MatchResult result (λ L. (L ≡ lattice_of c) × IsCompatible L
      × None (IsReducible c.rows) × None (IsWrongImage c)) (ContentFault c)
      → MatchResult result (λ L. IsDumped L × (text ≡ dump_text L)) (TextFault text)
  text_judged dump (Ok L) (same, compatible, fields, maps) =
      subst (λ (M : Lattice). IsDumped M × (text ≡ dump_text M)) (sym same)
      (compatible_dumped (record { dump = dump; fields = fields; maps = maps }) (subst IsCompatible same compatible))
  text_judged dump (Err f) fault = bad_content c dump fault
