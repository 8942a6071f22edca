-- What the proofs of functions use, under one name for each.
use Rattle.senders.proofs.ConnectionLemmas.{none_taken, still_kept, kept_itself, kept_then_taken, kept_then_given}

pub ruleset pushing = (none_taken, still_kept, kept_itself, kept_then_taken)

pub ruleset pulling = (still_kept, kept_itself, kept_then_given)
