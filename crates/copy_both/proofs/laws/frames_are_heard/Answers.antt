use Rattle.copy_both.proofs.ConfirmedHeard as confirmed
use Rattle.copy_both.proofs.PiecesHeard as lemmas
use Rattle.copy_both.proofs.StatusesHeard as statuses
use Rattle.copy_both.proofs.laws.frames_are_heard.Goals as goal

pub returns-clause-first : goal.returns-clause-first
returns-clause-first c = lemmas.nothing_is_heard

pub returns-clause-pieces : goal.returns-clause-pieces
returns-clause-pieces c = lemmas.pieces_are_heard

pub returns-clause-requested : goal.returns-clause-requested
returns-clause-requested c = lemmas.late_starts_are_requested

pub returns-clause-confirmed : goal.returns-clause-confirmed
returns-clause-confirmed c = statuses.statuses_confirm

pub returns-clause-heard : goal.returns-clause-heard
returns-clause-heard c = confirmed.confirmations_are_heard
