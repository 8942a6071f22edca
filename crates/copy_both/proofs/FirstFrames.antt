-- The first frame, if it is a Query with a text.
use Rattle.std.proofs.Common.{◌≡◌, ℕ, List, Some, ap}
use Rattle.copy_both.specs.CommandText.{command_of}
use Rattle.copy_both.specs.StartAnswers.{text_of_query, asked_in, asked_by_command, asked_of}
use Rattle.copy_both.specs.StartOrder.{OfferOf}

pub query_asks : (offer : OfferOf) (kind : ℕ) (body text : List ℕ) → kind ≡ 81 → Some text ≡ text_of_query body
    → asked_by_command offer (command_of text) ≡ asked_of offer kind body
unfolding asked_of
query_asks offer kind body text query found = rw query (ap (asked_in offer) found)
