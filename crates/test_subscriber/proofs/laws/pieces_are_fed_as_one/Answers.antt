use Rattle.test_subscriber.proofs.FeedingLemmas as lemmas
use Rattle.test_subscriber.proofs.laws.pieces_are_fed_as_one.Goals as goal

pub returns-clause-fed : goal.returns-clause-fed
returns-clause-fed c = lemmas.pieces_are_fed_as_one

pub returns-clause-stopped : goal.returns-clause-stopped
returns-clause-stopped c = lemmas.stops_come_at_once

pub returns-clause-stays : goal.returns-clause-stays
returns-clause-stays c = lemmas.first_pieces_stay
