-- What is printed of a row follows from what the filters of publications say.
use Rattle.std.proofs.Common.{◌≡◌, ℕ, ◌<◌, Bool, List, [], ◌∷◌, length, map, get_or, refl, sym, ap, ◌∙◌, if◌then◌else◌}
use Rattle.std.specs.Prelude.{Option, Some, None, IfSome, codes, slice_get}
use Rattle.std.specs.Option.{option_map}
use Rattle.std.specs.List.{join_with_byte}
use Rattle.std.proofs.lemmas.List.Elements.{All-head, All-tail}
use Rattle.std.proofs.lemmas.Option.{slice_get-map, slice_get-get_or}
use Rattle.filter_tree.specs.Datum.{Datum}
use Rattle.filter_tree.specs.Expr.{Expr, meaning}
use Rattle.filter_tree.specs.declared.tri.Tri.{Tri}
use Rattle.filter_memo.specs.Memos.{says, SayTheSame, Follows, IsMemoOf, IsLocated}
use Rattle.filter_memo.specs.declared.memo.Memo.{Memo}
use Rattle.filter_memo.specs.declared.said.Said.{Said}
use Rattle.commands.specs.Eval.Answers.{answer_of, said_by}
use Rattle.commands.specs.Eval.Carriers.{CarrierOf, carrier_view}
use Rattle.commands.specs.Eval.Inserts.{is_carried}
use Rattle.commands.specs.Eval.Memos.{filters_of, kept_of, Knows, KnowsOne}
use Rattle.commands.specs.declared.eval.carriers.Carrier.{Carrier}
use Rattle.commands.specs.declared.eval.row_output.RowOutput.{RowOutput}
use Rattle.commands.specs.declared.eval.row_output.RowOutput.TheVariants.{Answers, Insert}

module _ (one other : List Datum) where
  same_answer : (filter : Option Expr) → says one filter ≡ says other filter → answer_of one filter ≡ answer_of other filter
  same_answer None same = refl
  same_answer (Some filter) same = let truth : meaning filter one ≡ meaning filter other = cc in rw truth refl

  all_said : (carriers : List CarrierOf) → SayTheSame (filters_of carriers) one other
      → map (said_by one) carriers ≡ map (said_by other) carriers
  all_said [] same = refl
  all_said (carrier ∷ carriers) same =
      let here : answer_of one carrier.filter ≡ answer_of other carrier.filter =
      same_answer carrier.filter
      (All-head (λ it. says one it ≡ says other it) carrier.filter (filters_of carriers) same) in
      let later : map (said_by one) carriers ≡ map (said_by other) carriers =
      all_said carriers (All-tail (λ it. says one it ≡ says other it) carrier.filter (filters_of carriers) same) in
      rw (here, later) refl

  all_carried : (carriers : List CarrierOf) → SayTheSame (filters_of carriers) one other
      → is_carried one carriers ≡ is_carried other carriers
  all_carried [] same = refl
  all_carried (carrier ∷ carriers) same =
      let here : answer_of one carrier.filter ≡ answer_of other carrier.filter =
      same_answer carrier.filter
      (All-head (λ it. says one it ≡ says other it) carrier.filter (filters_of carriers) same) in
      let later : is_carried one carriers ≡ is_carried other carriers =
      all_carried carriers (All-tail (λ it. says one it ≡ says other it) carrier.filter (filters_of carriers) same) in
      rw (here, later) refl

pub texts_follow : (wanted : RowOutput) (carriers : List CarrierOf)
    → Follows (filters_of carriers) (kept_of wanted carriers)
texts_follow Answers carriers = record { same = λ one other same. ap (join_with_byte 32) (all_said one other carriers same) }
texts_follow Insert carriers = record {
  same = λ one other same.
      ap (λ (carried : Bool). if carried then [] else codes "none") (all_carried one other carriers same);
}

-- a memo of the publications knows what they say
pub knows : (carriers : List CarrierOf) (text_of : List Datum → List ℕ) (row : List Datum) (memo : Memo) (said : Said)
    → IsMemoOf (filters_of carriers) text_of memo → IsLocated memo row said → Knows carriers row memo said
knows carriers text_of row memo said is located = record { text_of = text_of; is = is; located = located }

pub knows_one : (carriers : List Carrier) (number : ℕ) (next : Carrier) (row : List Datum) (memo : Memo) (said : Said)
    → number < length carriers → next ≡ get_or carriers number next → Knows (map carrier_view carriers) row memo said
    → KnowsOne (carrier_view next).filter number row memo said
knows_one carriers number next row memo said within is known = record {
  carriers = map carrier_view carriers;
  known = known;
  own =
      slice_get-map (λ (carrier : CarrierOf). carrier.filter) (map carrier_view carriers) number
      ∙ ap (option_map (λ (carrier : CarrierOf). carrier.filter)) (slice_get-map carrier_view carriers number
      ∙ ap (option_map carrier_view) (slice_get-get_or carriers number next within ∙ ap Some (sym is)));
}

-- what the memo says is what the filter says
pub known_filter : (filter : Expr) (number : ℕ) (row : List Datum) (memo : Memo) (said : Said) (answer : Option Tri)
    (truth : Tri) → KnowsOne (Some filter) number row memo said
    → IfSome answer (λ answer. (filters : List (Option Expr)) (text_of : List Datum → List ℕ) (row : List Datum)
    (filter : Expr) → IsMemoOf filters text_of memo → IsLocated memo row said
    → slice_get filters number ≡ Some (Some filter) → answer ≡ meaning filter row)
    → answer ≡ Some truth → truth ≡ meaning filter row
known_filter filter number row memo said (Some own) truth known tells is =
    let same : truth ≡ own = cc in
    same ∙ tells (filters_of known.carriers) known.known.text_of row filter known.known.is known.known.located known.own
known_filter filter number row memo said None truth known tells is = absurd cc
