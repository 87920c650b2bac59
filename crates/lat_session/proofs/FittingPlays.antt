-- The variables fit the lattice that is seen after each command.
use Rattle.std.proofs.Common.{◌≡◌, ℕ, List, [], ◌∷◌, ◌++◌, sym, ap, ◌∙◌, subst, append_assoc}
use Rattle.std.proofs.lemmas.List.{append-nil}
use Rattle.alg_model.specs.Lattices as lattices
use Rattle.alg_model.specs.Lattices.{Lattice, Grows, IsEdition, IsCompatible}
use Rattle.lat_core.specs.declared.requests.Request.{Request}
use Rattle.lat_core.specs.declared.replies.Reply.{Reply}
use Rattle.lat_core.specs.declared.replies.Entry.{Entry}
use Rattle.lat_core.specs.declared.outcomes.Line.{Line}
use Rattle.lat_core.specs.Histories.{IsAfter, Knowledge, IsKnowledge, IsPlaced, IsUnplaced}
use Rattle.lat_core.proofs.HistoryLaws.{leads_split, leads_keeps, history_one, history_keeps}
use Rattle.lat_language.specs.declared.commands.Command.{Command}
use Rattle.lat_session.specs.Variables.{Variables, AreVariables}
use Rattle.lat_session.specs.Outcomes.{Operations, KeepsValues}
use Rattle.lat_session.specs.Playing.{IsSeen, FitSeen, PlaysOver}
use Rattle.lat_session.specs.Playing.PlaysOver.{change, full, read}
use Rattle.lat_session.specs.PrivatePlaying.{SomeSeen, OverSeen}
use Rattle.lat_session.proofs.FittingValues.{outcome_fits, grown_fits}

-- ---- the lattice that is seen
-- is one
pub seen_one : {k : Knowledge} {L M : Lattice} → IsSeen k L → IsSeen k M → L ≡ M
seen_one {k} {L} {M} s r = history_one k.edition k.seen L M s.edition s.after r.after

-- what holds of it holds wherever it is spoken of
pub seen_everywhere : {k : Knowledge} (P : Lattice → Type 0) → SomeSeen k P → OverSeen k P
seen_everywhere P (L, s, h) = λ M r. subst P (seen_one s r) h

-- and compatible
pub seen_compatible : {k : Knowledge} {L : Lattice} → IsSeen k L → IsCompatible L
seen_compatible {k} {L} s = (history_keeps k.edition k.seen L s.edition s.after).0

-- the variables fit it
pub fit_over : {k : Knowledge} {variables : Variables} {L : Lattice} → FitSeen k variables → IsSeen k L
    → AreVariables L variables
fit_over {variables = variables} F s = subst (λ M. AreVariables M variables) (seen_one F.seen s) F.fit

-- ---- a longer history
-- leads to a lattice that has grown
later_grows : (edition : lattices.Edition) (xs ys : List Entry) (L M : Lattice) → IsEdition edition
    → IsAfter edition xs L → IsAfter edition (xs ++ ys) M → Grows L M
later_grows edition xs ys L M e a b =
    let (N, first, rest) = leads_split xs ys b.opening M b.leads in
    let there : IsAfter edition xs N = record { opening = b.opening; of_edition = b.of_edition; is_opening = b.is_opening; leads = first } in
    subst (λ K. Grows K M) (history_one edition xs N L e there a)
    (leads_keeps ys (history_keeps edition xs N e there).0 rest).1

-- which the variables fit
fit_later : {old new : Knowledge} {variables : Variables} (rest : List Entry) → FitSeen old variables
    → IsKnowledge new → new.edition ≡ old.edition → new.seen ≡ old.seen ++ rest → FitSeen new variables
fit_later {old} {new} {variables} rest F N e s =
    let (M, a) = N.seen_legal in
    let edition : IsEdition new.edition = subst IsEdition (sym e) F.seen.edition in
    let before : IsAfter new.edition old.seen F.lattice = subst (λ d. IsAfter d old.seen F.lattice) (sym e) F.seen.after in
    let after : IsAfter new.edition (old.seen ++ rest) M = subst (λ xs. IsAfter new.edition xs M) s a in
    record {
      lattice = M;
      seen = record { edition = edition; after = a };
      fit = grown_fits (later_grows new.edition old.seen rest F.lattice M edition before after) F.fit;
    }

pub fit_placed : {old new : Knowledge} {variables : Variables} {request : Request} {reply : Reply}
    {place : ℕ} → FitSeen old variables → IsKnowledge old → IsKnowledge new
    → IsPlaced old new request reply place → FitSeen new variables
fit_placed {old} {new} {request = request} {reply = reply} F K N p =
    let own : List Entry = record { session = old.number; request = request; reply = reply } ∷ [] in
    let told : new.seen ≡ (old.seen ++ K.later) ++ p.others ++ own = p.seen ∙ p.told ∙ ap (λ xs. xs ++ p.others ++ own) K.seen_first in
    let joined : (old.seen ++ K.later) ++ p.others ++ own ≡ old.seen ++ (K.later ++ p.others ++ own)
    = ap (λ xs. xs ++ own) (append_assoc old.seen K.later p.others) ∙ append_assoc old.seen (K.later ++ p.others) own in
    fit_later (K.later ++ p.others ++ own) F N p.same.edition (told ∙ joined)

pub fit_unplaced : {old new : Knowledge} {variables : Variables} → FitSeen old variables
    → IsKnowledge new → IsUnplaced old new → FitSeen new variables
fit_unplaced {old} {new} F N u = fit_later [] F N u.same.edition (u.seen ∙ sym (append-nil old.seen))

-- **after each command**
pub fit_after : {operations : Operations} {old new : Knowledge} {variables after : Variables}
    {command : Command} {line : Line} → KeepsValues operations → FitSeen old variables
    → IsKnowledge old → IsKnowledge new
    → PlaysOver operations old variables command new after line → FitSeen new after
fit_after keeps F K N (change r p) = fit_placed F K N p
fit_after keeps F K N (full r u b) = fit_unplaced F N u
fit_after {old = old} {after = after} keeps F K N (read {L = L} none same a outcome) =
    let seen : IsSeen old L = record { edition = F.seen.edition; after = a } in
    subst (λ k. FitSeen k after) (sym same) (record {
      lattice = L;
      seen = seen;
      fit = outcome_fits keeps (seen_compatible seen) (fit_over F seen) outcome;
    })
