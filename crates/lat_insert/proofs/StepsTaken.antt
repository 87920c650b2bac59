-- What a step leaves, whatever it is answered.
use Rattle.std.proofs.Common.{◌≡◌, sym, subst, Result, Ok, Err}
use Rattle.std.specs.Result.{IfOk, OnErr}
use Rattle.alg_model.specs.Lattices.{Lattice, Grows, IsCompatible}
use Rattle.lat_core.specs.declared.memory.NoMemory.{NoMemory}
use Rattle.lat_core.specs.declared.requests.Request.{Request}
use Rattle.lat_core.specs.declared.replies.StepRefusal.{StepRefusal}
use Rattle.lat_core.specs.declared.replies.Reply.{Reply}
use Rattle.lat_core.specs.declared.replies.Reply.TheVariants.{Refused}
use Rattle.lat_core.specs.Step.{IsProperRequest, Steps}
use Rattle.lat_core.proofs.StepKeeps.{request_keeps, refusal_changes_nothing, grows_itself}

module _ {L M : Lattice} (request : Request) (C : IsCompatible L) (proper : IsProperRequest request)
  where
    -- **the lattice after a step is compatible and has grown**
    pub step_keeps : (result : Result Reply NoMemory) → IfOk result (λ reply. Steps L request reply M)
        → OnErr result (M ≡ L) → IsCompatible M × Grows L M
    step_keeps (Ok reply) s e = request_keeps L request reply M C proper s
    step_keeps (Err x) s e = subst (λ N. IsCompatible N × Grows L N) (sym e) (C, grows_itself L)

    -- **after a refusal it is as before**
    pub step_refused : (result : Result Reply NoMemory) → IfOk result (λ reply. Steps L request reply M)
        → (refusal : StepRefusal) → result ≡ Ok (Refused refusal) → M ≡ L
    step_refused (Ok reply) s refusal e =
        let same : reply ≡ Refused refusal = cc in
        refusal_changes_nothing L request refusal M (subst (λ r. Steps L request r M) same s)
    step_refused (Err x) s refusal e = cc
