-- The line of a command: there is one, only one, and the session can go on after it.
use Rattle.std.proofs.Common.{◌≡◌, ℕ, ◌+◌, List, [], ◌∷◌, ◌++◌, length, take, drop, refl, sym, ap, ap₂, ◌∙◌, subst, arith, length-append, append-nil, take-append-drop, Option, Some, None}
use Rattle.std.proofs.lemmas.List.{take_all, take-append-le}
use Rattle.std.proofs.lemmas.Option.{none-some, same_Some}
use Rattle.std.specs.Option.{option_map}
use Rattle.alg_model.specs.Lattices as lattices
use Rattle.alg_model.specs.Lattices.{Lattice, Grows, IsEdition, IsCompatible}
use Rattle.lat_core.specs.declared.tagged.Sending.{Sending}
use Rattle.lat_core.specs.declared.requests.Request.{Request}
use Rattle.lat_core.specs.declared.requests.Request.TheVariants as requests
use Rattle.lat_core.specs.declared.replies.Entry.{Entry}
use Rattle.lat_core.specs.declared.outcomes.Outcome.TheVariants.{Changed}
use Rattle.lat_core.specs.declared.outcomes.Line.{Line}
use Rattle.lat_core.specs.Step.{IsProperRequest, Steps}
use Rattle.lat_core.specs.Histories.{Leads, IsAfter, IsLegal}
use Rattle.lat_core.proofs.HistoryLaws.{leads_split, leads_keeps, history_one, history_keeps}
use Rattle.lat_core.proofs.StepDetermined.{reply_one}
use Rattle.lat_core.proofs.StepExists.{reply_exists}
use Rattle.lat_language.specs.declared.commands.Command.{Command}
use Rattle.lat_language.specs.declared.commands.Command.TheVariants.{Field, Embed, EmbedSending, Sync}
use Rattle.lat_session.specs.Variables.{Variables, AreVariables}
use Rattle.lat_session.specs.Commands.{sending_of, request_of, IsProperCommand}
use Rattle.lat_session.specs.Outcomes.{Operations, KeepsValues, HasOutcome}
use Rattle.lat_session.proofs.OneOutcome.{command_has_one_outcome}
use Rattle.lat_session.proofs.SomeOutcome.{command_has_outcome}
use Rattle.lat_session.proofs.FittingValues.{outcome_fits, grown_fits}
use Rattle.lat_history.proofs.BookLemmas.{after_entry, legal_take}
use Rattle.lat_playing.specs.Worlds.{HasLine}
use Rattle.lat_playing.specs.Worlds.HasLine.{change, read}
use Rattle.lat_playing.specs.PrivateWorlds.{IsFitted}

-- ---- requests
embeds_properly : (from into : List ℕ) (o : Option Sending) (request : Request)
    → option_map (λ s. requests.Embed from into (Some s)) o ≡ Some request
    → IsProperRequest request
embeds_properly from into None request e = absurd (none-some request e)
embeds_properly from into (Some s) request e =
    subst IsProperRequest (same_Some (requests.Embed from into (Some s)) request e) tt

-- a proper command asks for a proper change
pub proper_request : (variables : Variables) (command : Command) (request : Request)
    → IsProperCommand command → request_of variables command ≡ Some request
    → IsProperRequest request
proper_request variables (Field name p poly) request h e =
    subst IsProperRequest (same_Some (requests.Declare name p poly) request e) h
proper_request variables (Embed from into) request h e =
    subst IsProperRequest (same_Some (requests.Embed from into None) request e) tt
proper_request variables (EmbedSending from into value image) request h e =
    embeds_properly from into (sending_of variables value image) request e
proper_request variables Sync request h e =
    subst IsProperRequest (same_Some requests.Sync request e) tt
proper_request variables _ request h e = absurd (none-some request e)

-- ---- histories
-- the lattice after the first entries grows to the one after all
pub beginning_grows : (edition : lattices.Edition) (entries : List Entry) (n : ℕ) (L : Lattice)
    → IsEdition edition → IsAfter edition entries L
    → (K : Lattice) × IsAfter edition (take n entries) K × Grows K L
beginning_grows edition entries n L E a =
    let parts = subst (λ es. Leads a.opening es L) (sym (take-append-drop n entries)) a.leads in
    let (K, first, later) = leads_split (take n entries) (drop n entries) a.opening L parts in
    let b : IsAfter edition (take n entries) K = record {
      opening = a.opening;
      of_edition = a.of_edition;
      is_opening = a.is_opening;
      leads = first;
    } in
    (K, b, (leads_keeps (drop n entries) (history_keeps edition (take n entries) K E b).0 later).1)

module _ (edition : lattices.Edition) (operations : Operations) (E : IsEdition edition) where
  -- ---- a line
  -- **is one**, with all that it leaves
  pub line_one : {n : ℕ} {history h k : List Entry}
      {variables v u : Variables} {front f g : ℕ} {command : Command} {l m : Line}
      → IsFitted edition history variables front
      → HasLine edition operations n history variables front command h v f l
      → HasLine edition operations n history variables front command k u g m
      → (h ≡ k) × (v ≡ u) × (f ≡ g) × (l ≡ m)
  line_one {n} {history} {variables = variables} F (change {request} {reply} {L} M asked after step) (change {request = r} {reply = p} {L = K} N also behind other) =
      let same : request ≡ r = same_Some request r (sym asked ∙ also) in
      let here : K ≡ L = history_one edition history K L E behind after in
      let asks : Steps K request p N = subst (λ q. Steps K q p N) (sym same) other in
      let steps : Steps L request p N = subst (λ J. Steps J request p N) here asks in
      let answer = (reply_one L request reply p M N (history_keeps edition history L E after).0 step steps).0 in (
        ap₂ (λ q a. history ++ record { session = n; request = q; reply = a } ∷ []) same answer,
        refl,
        refl,
        ap (λ a. record { outcome = Changed a; mark = length history }) answer,
      )
  line_one F (change M asked after step) (read none behind has) =
      absurd (none-some _ (sym none ∙ asked))
  line_one F (read none behind has) (change M asked after step) =
      absurd (none-some _ (sym none ∙ asked))
  line_one {history = history} {variables = variables} {front = front} {command = command} F (read {L} {outcome} {after} none seen has) (read {L = K} {outcome = other} {after = also} none' behind gives) =
      let here : K ≡ L = history_one edition (take front history) K L E behind seen in
      let (same, left) = command_has_one_outcome operations L variables command outcome other after also (history_keeps edition (take front history) L E seen).0 (F.fit L seen) has (subst (λ J. HasOutcome operations J variables command other also) here gives) in
      (refl, left, refl, ap (λ o. record { outcome = o; mark = front }) same)

  -- **there is one**
  pub line_exists : (n : ℕ) (history : List Entry)
      (variables : Variables) (front : ℕ) (command : Command) → IsProperCommand command
      → IsLegal edition history → IsFitted edition history variables front
      → (h : List Entry) × (v : Variables) × (f : ℕ) × (l : Line)
      × HasLine edition operations n history variables front command h v f l
  line_exists n history variables front command proper (L, a) F =
      by_request (request_of variables command) refl
    where
      by_request : (o : Option Request) → request_of variables command ≡ o
          → (h : List Entry) × (v : Variables) × (f : ℕ) × (l : Line)
          × HasLine edition operations n history variables front command h v f l
      by_request (Some request) asked =
          let (reply, M, step) = reply_exists L request (history_keeps edition history L E a).0 (proper_request variables command request proper asked) in (
            history ++ record { session = n; request = request; reply = reply } ∷ [],
            variables,
            length history + 1,
            record { outcome = Changed reply; mark = length history },
            change M asked a step,
          )
      by_request None none =
          let (K, b) = legal_take edition history front (L, a) in
          let (outcome, after, has) = command_has_outcome operations K variables command (history_keeps edition (take front history) K E b).0 (F.fit K b) none in
          (history, after, front, record { outcome = outcome; mark = front }, read none b has)

  -- ---- what a session has seen
  -- it has seen of a longer history too
  pub fitted_later : {history : List Entry} (later : List Entry) {variables : Variables}
      {front : ℕ} → IsFitted edition history variables front
      → IsFitted edition (history ++ later) variables front
  fitted_later {history} later {variables} {front} F = record {
    within = omega (arith, length-append history later, F.within);
    fit = λ L a. F.fit L (subst (λ es. IsAfter edition es L) (take-append-le front history later F.within) a);
  }

  -- and variables that fit it fit all that comes later
  fitted_all : {history : List Entry} (entry : Entry) {variables : Variables} {front : ℕ}
      → IsFitted edition history variables front
      → IsFitted edition (history ++ entry ∷ []) variables (length history + 1)
  fitted_all {history} entry {variables} {front} F = record {
    within = omega (arith, length-append history (entry ∷ []));
    fit = λ L a.
        let G = fitted_later (entry ∷ []) F in
        let all : IsAfter edition (history ++ entry ∷ []) L = subst (λ es. IsAfter edition es L) (take_all (length history + 1) (history ++ entry ∷ []) (omega (arith, length-append history (entry ∷ [])))) a in
        let (K, b, grown) = beginning_grows edition (history ++ entry ∷ []) front L E all in
        grown_fits grown (G.fit K b);
  }

  -- **a legal history stays legal, and the session's variables fit what it has seen then**
  pub line_leaves : KeepsValues operations → {n : ℕ} {history h : List Entry}
      {variables v : Variables} {front f : ℕ} {command : Command} {l : Line}
      → IsProperCommand command → IsLegal edition history
      → IsFitted edition history variables front
      → HasLine edition operations n history variables front command h v f l
      → IsLegal edition h × IsFitted edition h v f × ((later : List Entry) × (h ≡ history ++ later))
  line_leaves keeps {n} {variables = variables} {command = command} proper legal F (change {request} {reply} {L} M asked after step) =
      let entry : Entry = record { session = n; request = request; reply = reply } in (
        (M, after_entry entry after (proper_request variables command request proper asked) step),
        fitted_all entry F,
        (entry ∷ [], refl),
      )
  line_leaves keeps {history = history} {variables = variables} {front = front} {command = command} proper legal F (read {L} {outcome} {after} none seen has) =
      let C = (history_keeps edition (take front history) L E seen).0 in
      let fits : AreVariables L after = outcome_fits keeps C (F.fit L seen) has in (
        legal,
        record {
          within = F.within;
          fit = λ K b. subst (λ J. AreVariables J after) (history_one edition (take front history) L K E seen b) fits;
        },
        ([], sym (append-nil history)),
      )
