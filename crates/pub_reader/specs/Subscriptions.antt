-- CREATE SUBSCRIPTION: PostgreSQL 15, SQL Commands, CREATE SUBSCRIPTION. The connection text is not used, and WITH is
-- not supported.
use Rattle.std.specs.Prelude.{ℕ, ◌==◌, nat_le, if◌then◌else◌, List, [], ◌∷◌, ◌++◌, length, Option, Some, None, Ok, Err}
use Rattle.std.specs.List.{list_any}
use Rattle.pub_reader.specs.Grammar.k
use Rattle.pub_reader.specs.Grammar.i
use Rattle.pub_reader.specs.Grammar.w
use Rattle.pub_reader.specs.Grammar.{Item, PlacedName, Rule, Verdict, fault, ◌>>=◌, ◌>>◌, pure, check, refuse_as, expect, item_ahead, link, repeat, name}
use Rattle.sql_reader.specs.declared.error.Omitted.TheVariants.{Clause}
use Rattle.sql_reader.specs.declared.error.Limit.TheVariants.{Subscriptions}
use Rattle.pub_reader.specs.Drafts.{DraftOf, find_publication, find_subscription}
use Rattle.pub_reader.specs.Schemas.{fresh}

-- a new subscription has a new name, and there are at most 32 subscriptions
unfoldable pub check_new_subscription : {S : Type 0} → DraftOf S → PlacedName → Verdict (Unit {0})
check_new_subscription draft called =
    fresh called (find_subscription called.text draft.subscriptions) (nat_le 32 (length draft.subscriptions))
    Subscriptions

unfoldable pub new_subscription_name : {S : Type 0} → DraftOf S → Rule PlacedName
new_subscription_name draft = do
  called ← name
  check (check_new_subscription draft called)
  pure called

-- ---- its publications, each at most once

abbrev pub once : List ℕ → PlacedName → Option ℕ → Verdict ℕ
once numbers called None = Err (fault called.place w.UnknownName)
once numbers called (Some number) = if list_any (λ n. n == number) numbers then
    Err (fault called.place w.NameTwice) else Ok number

unfoldable pub subscribed : {S : Type 0} → DraftOf S → List ℕ → PlacedName → Verdict ℕ
subscribed draft numbers called = once numbers called (find_publication called.text draft.publications)

unfoldable pub one_publication : {S : Type 0} → DraftOf S → List ℕ → Rule (List ℕ)
one_publication draft numbers = do
  called ← name
  number ← check (subscribed draft numbers called)
  pure (numbers ++ number ∷ [])

unfoldable pub publication_list : {S : Type 0} → DraftOf S → Rule (List ℕ)
publication_list draft = one_publication draft [] >>= repeat (link i.Comma (one_publication draft))

-- ---- the statement

abbrev pub subscription_tail_by : Option Item → Rule (Unit {0})
subscription_tail_by (Some (i.Keyword k.With)) = refuse_as (w.LeftOut Clause)
subscription_tail_by _ = pure tt

unfoldable pub subscription_tail : Rule (Unit {0})
subscription_tail ts = subscription_tail_by (item_ahead ts) ts

-- after the name
unfoldable pub subscription_body : {S : Type 0} → DraftOf S → Rule (List ℕ)
subscription_body draft = do
  expect (i.Keyword k.Connection)
  expect i.Text
  expect (i.Keyword k.Publication)
  numbers ← publication_list draft
  subscription_tail
  pure numbers

unfoldable pub create_subscription : {S : Type 0} → DraftOf S → Rule (DraftOf S)
create_subscription draft = do
  called ← new_subscription_name draft
  numbers ← subscription_body draft
  pure (record draft {
    subscriptions =
        draft.subscriptions ++ record { name = called.text; publications = numbers } ∷ [];
  })
