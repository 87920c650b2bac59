-- The stored map is the choice, or there is none.
use Rattle.lat_insert.proofs.Replies.{stored_sent, stored_unsent}
use Rattle.lat_insert.proofs.embedding.stored_reply.Goals as goal

pub returns-then-is_sent-clause-stored : goal.returns-then-is_sent-clause-stored
returns-then-is_sent-clause-stored c = stored_sent c.edition-edition.ensures.whole c.requires.fields c.requires.fit c.in_ok-map.ensures
    c.is_sent.result c.is_sent.ensures c.if-is_sent.true c.image.ensures.value

pub returns-else-is_sent-clause-stored : goal.returns-else-is_sent-clause-stored
returns-else-is_sent-clause-stored c = stored_unsent c.edition-edition.ensures.whole c.requires.fields c.requires.fit c.in_ok-map.ensures
    c.is_sent.result c.is_sent.ensures c.if-is_sent.false
