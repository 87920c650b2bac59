-- What holds of requests, replies, histories and the lattices that they leave, as statements.
use Rattle.std.specs.Prelude.{◌≡◌, ℕ, List, None}
use Rattle.alg_model.specs.Lattices as lattices
use Rattle.alg_model.specs.Lattices.{Lattice, Grows, IsEdition, IsCompatible}
use Rattle.lat_core.specs.declared.requests.Request.{Request}
use Rattle.lat_core.specs.declared.requests.Request.TheVariants.{Embed}
use Rattle.lat_core.specs.declared.replies.StepRefusal.{StepRefusal}
use Rattle.lat_core.specs.declared.replies.StepRefusal.TheVariants.{NoCompatibleRoot}
use Rattle.lat_core.specs.declared.replies.Reply.{Reply}
use Rattle.lat_core.specs.declared.replies.Reply.TheVariants.{Refused}
use Rattle.lat_core.specs.declared.replies.Entry.{Entry}
use Rattle.lat_core.specs.Step.{IsProperRequest, Steps}
use Rattle.lat_core.specs.Histories.{IsAfter}

-- Each request to a compatible lattice has a reply, and a lattice that it leaves.
abbrev pub RequestHasReply : Type 0
RequestHasReply = (L : Lattice) (request : Request) → IsCompatible L → IsProperRequest request
    → (reply : Reply) × (M : Lattice) × Steps L request reply M

-- It has only one of each.
abbrev pub RequestHasOneReply : Type 0
RequestHasOneReply = (L : Lattice) (request : Request) (reply other : Reply) (M N : Lattice)
    → IsCompatible L → Steps L request reply M → Steps L request other N
    → (reply ≡ other) × (M ≡ N)

-- The lattice that it leaves is compatible, and has grown.
abbrev pub RequestKeepsCompatible : Type 0
RequestKeepsCompatible = (L : Lattice) (request : Request) (reply : Reply) (M : Lattice)
    → IsCompatible L → IsProperRequest request → Steps L request reply M
    → IsCompatible M × Grows L M

-- A refusal changes nothing.
abbrev pub RefusalChangesNothing : Type 0
RefusalChangesNothing = (L : Lattice) (request : Request) (refusal : StepRefusal) (M : Lattice)
    → Steps L request (Refused refusal) M → M ≡ L

-- Where nothing is prescribed, a candidate is never missing.
abbrev pub PlainEmbeddingIsFound : Type 0
PlainEmbeddingIsFound = (L : Lattice) (from into : List ℕ) (M : Lattice) → IsCompatible L
    → Steps L (Embed from into None) (Refused NoCompatibleRoot) M → ⊥

-- A history leads to one lattice.
abbrev pub HistoryHasOneLattice : Type 0
HistoryHasOneLattice = (edition : lattices.Edition) (entries : List Entry) (M N : Lattice)
    → IsEdition edition → IsAfter edition entries M → IsAfter edition entries N → M ≡ N

-- It is a compatible lattice of the edition.
abbrev pub HistoryKeepsCompatible : Type 0
HistoryKeepsCompatible = (edition : lattices.Edition) (entries : List Entry) (M : Lattice)
    → IsEdition edition → IsAfter edition entries M → IsCompatible M × (M.edition ≡ edition)
