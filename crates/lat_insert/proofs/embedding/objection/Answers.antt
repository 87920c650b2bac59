-- The first thing that speaks against the embedding.
use Rattle.std.proofs.Common.{ap, ◌∙◌}
use Rattle.alg_model.specs.Maps.{degree_of}
use Rattle.lat_insert.proofs.Replies.{apart_reply, degree_reply, tag_reply}
use Rattle.lat_insert.proofs.embedding.objection.Goals as goal

pub returns-then-p-q-clause-some : goal.returns-then-p-q-clause-some
returns-then-p-q-clause-some c = apart_reply
    (c.number-p.ensures.value ∙ c.prime.ensures.value ∙ ap (λ r. r.field.characteristic) (c.behind-lattice.view_is ∙ c.field.ensures.value))
    (c.number-q.ensures.value ∙ c.prime-2.ensures.value ∙ ap (λ r. r.field.characteristic) (c.behind-lattice-2.view_is ∙ c.field-2.ensures.value))
    c.if-p-q.true

pub returns-then-n-m-ne0-clause-some : goal.returns-then-n-m-ne0-clause-some
returns-then-n-m-ne0-clause-some c = degree_reply
    (c.number-p.ensures.value ∙ c.prime.ensures.value ∙ ap (λ r. r.field.characteristic) (c.behind-lattice.view_is ∙ c.field.ensures.value))
    (c.number-q.ensures.value ∙ c.prime-2.ensures.value ∙ ap (λ r. r.field.characteristic) (c.behind-lattice-2.view_is ∙ c.field-2.ensures.value))
    c.if-p-q.false
    (c.degree-m.ensures.value ∙ ap (λ r. degree_of r.field) (c.behind-lattice.view_is ∙ c.field.ensures.value))
    (c.degree-n.ensures.value ∙ ap (λ r. degree_of r.field) (c.behind-lattice-2.view_is ∙ c.field-2.ensures.value))
    c.if-n-m-ne0.true

pub returns-in-Some-wrong_tag-clause-some : goal.returns-in-Some-wrong_tag-clause-some
returns-in-Some-wrong_tag-clause-some c = tag_reply
    (c.number-p.ensures.value ∙ c.prime.ensures.value ∙ ap (λ r. r.field.characteristic) (c.behind-lattice.view_is ∙ c.field.ensures.value))
    (c.number-q.ensures.value ∙ c.prime-2.ensures.value ∙ ap (λ r. r.field.characteristic) (c.behind-lattice-2.view_is ∙ c.field-2.ensures.value))
    c.if-p-q.false
    (c.degree-m.ensures.value ∙ ap (λ r. degree_of r.field) (c.behind-lattice.view_is ∙ c.field.ensures.value))
    (c.degree-n.ensures.value ∙ ap (λ r. degree_of r.field) (c.behind-lattice-2.view_is ∙ c.field-2.ensures.value))
    c.if-n-m-ne0.false c.in-Some.is c.in-Some-wrong_tag.ensures.wrong
