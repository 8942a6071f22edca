-- What the proofs of functions use, under one name for each.
use Rattle.shard_world.proofs.CallLemmas.{is_already_open, opens_one, is_not_open, hears_piece, takes_one, keeps_one, delivers_piece, reports_one}
use Rattle.shard_world.proofs.LinkedLemmas.{is_linked, serves_alike}
use Rattle.shard_world.proofs.PumpLemmas.{walks_none, walks_more, walks_end, takes_none, takes_more, takes_idle, takes_enough, takes_end}
use Rattle.shard_world.proofs.StopLemmas.{open_stays_shut, open_is_refused, hear_stops, take_stops, keep_stops, deliver_stops}
use Rattle.shard_world.proofs.WorldMoves.{commits_one, refuses_one}

pub ruleset opening = (is_already_open, opens_one, open_stays_shut, open_is_refused, is_linked)

pub ruleset hearing = (is_not_open, hears_piece, hear_stops)

pub ruleset taking = (is_not_open, takes_one, take_stops)

pub ruleset keeping = (is_not_open, keeps_one, keep_stops)

pub ruleset delivering = (is_not_open, delivers_piece, deliver_stops)

pub ruleset reporting = (is_not_open, reports_one)

pub ruleset committing = (commits_one, refuses_one, serves_alike)

pub ruleset walking = (walks_none, walks_more, walks_end)

pub ruleset taking_all = (takes_none, takes_more, takes_idle, takes_enough, takes_end)
