-- The line of a command from what its parts have done.
use Rattle.std.proofs.Common.{◌≡◌, ℕ, ◌<◌, ◌≤◌, List, length, refl, sym, ap, ◌∙◌, subst, Option, Some, None}
use Rattle.std.specs.Prelude.{Ok, Err, All}
use Rattle.std.specs.Option.{option_map, option_and_then}
use Rattle.std.specs.FinMap.{get, insert}
use Rattle.alg_model.specs.Coefficients.{mod_ops}
use Rattle.alg_model.specs.Values.{padded}
use Rattle.alg_model.specs.Maps.{Field, degree_of}
use Rattle.alg_model.specs.Lattices.{Lattice, field_at}
use Rattle.ff_field.specs.SmallFields.{IsFirstTooLarge}
use Rattle.lat_core.specs.declared.tagged.Tagged.{Tagged}
use Rattle.lat_core.specs.declared.tagged.Sending.{Sending}
use Rattle.lat_core.specs.declared.requests.Request.{Request}
use Rattle.lat_core.specs.declared.requests.Request.TheVariants as requests
use Rattle.lat_core.specs.declared.replies.Reply.{Reply}
use Rattle.lat_core.specs.declared.replies.ChangeFault.TheVariants as faults
use Rattle.lat_core.specs.declared.outcomes.Line.{Line}
use Rattle.lat_core.specs.declared.outcomes.Outcome.{Outcome}
use Rattle.lat_core.specs.declared.outcomes.Outcome.TheVariants.{Changed, Val, Refused}
use Rattle.lat_core.specs.declared.outcomes.SessionRefusal.{SessionRefusal}
use Rattle.lat_core.specs.declared.outcomes.SessionRefusal.TheVariants.{CoefficientTooLarge, UnknownField, UnknownVariable, TooManyVariables, TooManyCoefficients, HistoryFull}
use Rattle.lat_core.specs.Step.{IsNamed}
use Rattle.lat_core.specs.Histories.{Knowledge, IsPlaced, IsUnplaced, IsRefusedBy}
use Rattle.lat_language.specs.declared.commands.Command.{Command}
use Rattle.lat_language.specs.declared.commands.Command.TheVariants.{EmbedSending, Let, Show}
use Rattle.lat_session.specs.Variables.{Variables, Holds, IsVariable, IsFullFor}
use Rattle.lat_session.specs.Commands.{result_name}
use Rattle.lat_session.specs.Outcomes.{IsFieldWord, name_at, tagged, Reads, Computed, Operations, HasOutcome}
use Rattle.lat_session.specs.Outcomes.IsFirstUnknown.{here, later}
use Rattle.lat_session.specs.Outcomes.Reads.{too_many, too_large, value as digits_value}
use Rattle.lat_session.specs.Outcomes.Computes.{of_let}
use Rattle.lat_session.specs.Outcomes.HasOutcome.{unknown_variable, unknown_field, shown, refused, full as no_room_for, stored}
use Rattle.lat_session.specs.Playing.{IsSeen}
use Rattle.lat_session.specs.Playing.PlaysOver.{change, full, read}
use Rattle.lat_session.specs.PrivatePlaying.{OverSeen, Results, Sends, ComesTo, ChangesTo, Embeds, KeepsTo, PlaysAs}
use Rattle.lat_session.specs.PrivatePlaying.IsUnknown.{variable, field}
use Rattle.lat_session.specs.PrivatePlaying.Results.{unknown, computed}
use Rattle.lat_session.specs.PrivatePlaying.Sends.{unknown as unsent, pair}

-- an outcome with a mark
abbrev pub line_of : Outcome → ℕ → Line
line_of outcome mark = record { outcome = outcome; mark = mark }

-- ---- changes
pub entered : {old new : Knowledge} {request : Request} {reply : Reply} {place : ℕ}
    → IsPlaced old new request reply place
    → ChangesTo old request new (line_of (Changed reply) place)
entered p = λ operations variables command r. change r p

pub no_room : {old new : Knowledge} {request : Request} {n mark : ℕ} → IsUnplaced old new
    → IsRefusedBy new (faults.HistoryFull n) → mark ≡ length new.seen
    → ChangesTo old request new (line_of (Refused (HistoryFull n)) mark)
no_room {old} {new} {request} {n} u b e = subst (λ m. ChangesTo old request new (line_of (Refused (HistoryFull n)) m)) (sym e)
    (λ operations variables command r. full r u b)

-- ---- the values of two variables
pub none_of : (variables : Variables) (name : List ℕ) → ¬ IsVariable variables name
    → get variables name ≡ None
none_of variables name n = found (get variables name) refl
  where
    found : (o : Option Tagged) → get variables name ≡ o → get variables name ≡ None
    found None e = e
    found (Some t) e = absurd (n (t, record { found = e }))

-- the pair of what is found
abbrev pair_of : Option Tagged → Option Tagged → Option Sending
pair_of o p = option_and_then (λ v. option_map (λ w. record { value = v; image = w }) p) o

no_pair : (o : Option Tagged) → pair_of o None ≡ None
no_pair None = refl
no_pair (Some t) = refl

pub sends_pair : {variables : Variables} {value image : List ℕ} {v w : Tagged}
    → Holds variables value v → Holds variables image w
    → Sends variables value image (Ok (record { value = v; image = w }))
sends_pair h k = pair (λ i. pair_of (h.found i) (k.found i))

pub first_unsent : (variables : Variables) (value image : List ℕ) (refusal : SessionRefusal)
    → (refusal ≡ UnknownVariable value) × (¬ IsVariable variables value)
    → Sends variables value image (Err refusal)
first_unsent variables value image refusal (e, n) = subst (λ r. Sends variables value image (Err r)) (sym e)
    (unsent (here n) (ap (λ o. pair_of o (get variables image)) (none_of variables value n)))

pub second_unsent : (variables : Variables) (value image : List ℕ) (refusal : SessionRefusal)
    (v : Tagged) → Holds variables value v
    → (refusal ≡ UnknownVariable image) × (¬ IsVariable variables image)
    → Sends variables value image (Err refusal)
second_unsent variables value image refusal v h (e, n) = subst (λ r. Sends variables value image (Err r)) (sym e)
    (unsent (later (v, h) (here n))
    (ap (pair_of (get variables value)) (none_of variables image n) ∙ no_pair (get variables value)))

-- ---- an embedding that sends one value to another
pub embeds_pair : {old new : Knowledge} {variables : Variables} {from into value image : List ℕ}
    {sending : Sending} {line : Line} → Sends variables value image (Ok sending)
    → ChangesTo old (requests.Embed from into (Some sending)) new line
    → Embeds old variables from into value image new line
embeds_pair {variables = variables} {from = from} {into = into} {value = value} {image = image} (pair e) h = λ operations. h operations variables (EmbedSending from into value image)
    (ap (option_map (λ s. requests.Embed from into (Some s))) e)

pub embeds_nothing : {k : Knowledge} {variables : Variables} {from into value image : List ℕ}
    {refusal : SessionRefusal} (L : Lattice) → IsSeen k L
    → Sends variables value image (Err refusal)
    → Embeds k variables from into value image k (line_of (Refused refusal) (length k.seen))
embeds_nothing {from = from} {into = into} L s (unsent h none) = λ operations.
    read (ap (option_map (λ s. requests.Embed from into (Some s))) none) refl s.after (unknown_variable h)

-- ---- what is computed
outcome_of_refusal : {operations : Operations} {L : Lattice} {variables : Variables}
    {command : Command} {refusal : SessionRefusal}
    → Results operations L variables command (Err refusal)
    → HasOutcome operations L variables command (Refused refusal) variables
outcome_of_refusal (unknown (variable h)) = unknown_variable h
outcome_of_refusal (unknown (field known h)) = unknown_field known h
outcome_of_refusal (computed c) = refused c

outcome_of_full : {operations : Operations} {L : Lattice} {variables : Variables}
    {command : Command} {t : Tagged} {name : List ℕ}
    → Results operations L variables command (Ok t) → result_name command ≡ Some name
    → IsFullFor variables name
    → HasOutcome operations L variables command (Refused TooManyVariables) variables
outcome_of_full (computed c) named f = no_room_for c named f

outcome_of_value : {operations : Operations} {L : Lattice} {variables : Variables}
    {command : Command} {t : Tagged} {name : List ℕ}
    → Results operations L variables command (Ok t) → result_name command ≡ Some name
    → ¬ IsFullFor variables name
    → HasOutcome operations L variables command (Val (name_at L t.field) t.value)
    (insert variables name t)
outcome_of_value (computed c) named free = stored c named free

pub kept_refusal : {k : Knowledge} {variables : Variables} {name : List ℕ} {refusal : SessionRefusal}
    (L : Lattice) → IsSeen k L
    → KeepsTo k variables name (Err refusal) variables (line_of (Refused refusal) (length k.seen))
kept_refusal L s = λ operations command none named results.
    read none refl s.after (outcome_of_refusal (results L s))

pub kept_full : {k : Knowledge} {variables : Variables} {name : List ℕ} {t : Tagged}
    (L : Lattice) → IsSeen k L → IsFullFor variables name
    → KeepsTo k variables name (Ok t) variables (line_of (Refused TooManyVariables) (length k.seen))
kept_full L s f = λ operations command none named results.
    read none refl s.after (outcome_of_full (results L s) named f)

pub kept_value : {k : Knowledge} {variables after : Variables} {name : List ℕ} {t : Tagged}
    {outcome : Outcome} {line : Line} (L : Lattice) → IsSeen k L → ¬ IsFullFor variables name
    → outcome ≡ Val (name_at L t.field) t.value → after ≡ insert variables name t
    → line ≡ line_of outcome (length k.seen)
    → KeepsTo k variables name (Ok t) after line
kept_value {k} {variables} {after} {name} {t} {outcome} {line} L s free shows sets marks =
    subst (λ l. KeepsTo k variables name (Ok t) after l) (sym (marks ∙ ap (λ o. line_of o (length k.seen)) shows))
    (subst (λ a. KeepsTo k variables name (Ok t) a (line_of (Val (name_at L t.field) t.value) (length k.seen))) (sym sets)
    (λ operations command none named results. read none refl s.after (outcome_of_value (results L s) named free)))

-- a line that is told by an equation
pub kept_as : {k : Knowledge} {variables after : Variables} {name : List ℕ} {value : Computed}
    {line told : Line} → told ≡ line → KeepsTo k variables name value after line
    → KeepsTo k variables name value after told
kept_as {k} {variables} {after} {name} {value} e h = subst (KeepsTo k variables name value after) (sym e) h

-- ---- showing a variable
pub shows_value : {k : Knowledge} {variables : Variables} {name : List ℕ} {t : Tagged}
    {outcome : Outcome} {line : Line} (L : Lattice) → IsSeen k L → Holds variables name t
    → outcome ≡ Val (name_at L t.field) t.value → line ≡ line_of outcome (length k.seen)
    → PlaysAs k variables (Show name) variables line
shows_value {k} {variables} {name} {t} L s h shows marks =
    subst (PlaysAs k variables (Show name) variables) (sym (marks ∙ ap (λ o. line_of o (length k.seen)) shows))
    (λ operations. read refl refl s.after (shown refl h))

pub shows_nothing : {k : Knowledge} {variables : Variables} {name : List ℕ}
    {refusal : SessionRefusal} {line : Line} (L : Lattice) → IsSeen k L
    → (refusal ≡ UnknownVariable name) × (¬ IsVariable variables name)
    → line ≡ line_of (Refused refusal) (length k.seen)
    → PlaysAs k variables (Show name) variables line
shows_nothing {k} {variables} {name} L s (e, n) marks =
    subst (PlaysAs k variables (Show name) variables) (sym (marks ∙ ap (λ r. line_of (Refused r) (length k.seen)) e))
    (λ operations. read refl refl s.after (unknown_variable (here n)))

-- ---- digits of a named field
pub lets_nothing : (k : Knowledge) (variables : Variables) (name_of_field digits : List ℕ)
    (refusal : SessionRefusal)
    → OverSeen k (λ L. (refusal ≡ UnknownField name_of_field) × (¬ IsFieldWord L name_of_field))
    → ComesTo k variables (λ name. Let name name_of_field digits) (Err refusal)
lets_nothing k variables name_of_field digits refusal h = λ operations name L s.
    let (e, n) = h L s in
    subst (λ r. Results operations L variables (Let name name_of_field digits) (Err r)) (sym e) (unknown (field tt (here n)))

pub lets_value : (k : Knowledge) (variables : Variables) (name_of_field digits : List ℕ) (n : ℕ)
    (value : Computed) → OverSeen k (λ L. IsNamed L n name_of_field)
    → OverSeen k (λ L. Reads L n digits value)
    → ComesTo k variables (λ name. Let name name_of_field digits) value
lets_value k variables name_of_field digits n value named reads = λ operations name L s.
    computed (of_let (named L s) (reads L s))

-- ---- digits as a value of a field
module _ {L : Lattice} {n : ℕ} (K : Field) (xs digits : List ℕ) (is : K ≡ field_at L.rows n)
    (same : xs ≡ digits) where
  pub reads_value : (v : List ℕ) → v ≡ padded (mod_ops K.characteristic) (degree_of K) xs
      → (length xs ≤ degree_of K) × All (λ x. x < K.characteristic) xs
      → Reads L n digits (Ok (tagged n v))
  reads_value v made fits =
      let there : (length digits ≤ degree_of (field_at L.rows n)) × All (λ x. x < (field_at L.rows n).characteristic) digits
      = subst (λ ys. (length ys ≤ degree_of (field_at L.rows n)) × All (λ x. x < (field_at L.rows n).characteristic) ys) same
      (subst (λ G. (length xs ≤ degree_of G) × All (λ x. x < G.characteristic) xs) is fits) in
      subst (λ w. Reads L n digits (Ok (tagged n w)))
      (sym (made ∙ (λ i. padded (mod_ops (is i).characteristic) (degree_of (is i)) (same i))))
      (digits_value there.0 there.1)

  pub reads_too_many : degree_of K < length xs
      → Reads L n digits (Err (TooManyCoefficients (length xs)))
  reads_too_many over = subst (λ ys. Reads L n digits (Err (TooManyCoefficients (length ys)))) (sym same)
      (too_many (subst (λ ys. degree_of (field_at L.rows n) < length ys) same
      (subst (λ G. degree_of G < length xs) is over)))

  pub reads_too_large : (place : ℕ)
      → (length xs ≤ degree_of K) × IsFirstTooLarge K.characteristic xs place
      → Reads L n digits (Err (CoefficientTooLarge place))
  reads_too_large place found =
      let there : (length digits ≤ degree_of (field_at L.rows n)) × IsFirstTooLarge (field_at L.rows n).characteristic digits place
      = subst (λ ys. (length ys ≤ degree_of (field_at L.rows n)) × IsFirstTooLarge (field_at L.rows n).characteristic ys place) same
      (subst (λ G. (length xs ≤ degree_of G) × IsFirstTooLarge G.characteristic xs place) is found) in
      too_large there.0 there.1
