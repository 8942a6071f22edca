-- The values of numbered filters for a row.
use Rattle.std.proofs.Common.{◌≡◌, ℕ, ◌+◌, ◌<◌, Bool, true, false, ◌||◌, List, [], ◌∷◌, ◌++◌, length, take, get_or, append-nil, refl, sym, ap, subst, ◌∙◌, inl, inr, arith}
use Rattle.std.specs.Prelude.{◌==◌, Some, None, slice_get, All, if◌then◌else◌}
use Rattle.std.proofs.lemmas.Bool.{cases_eq, eq-eqb, ne_eqb}
use Rattle.std.proofs.lemmas.List.{take_more}
use Rattle.std.proofs.lemmas.List.Concat.{flat_map-append}
use Rattle.std.proofs.lemmas.List.Elements.{All-get_or}
use Rattle.std.proofs.lemmas.List.Folds.{list_any-append}
use Rattle.std.proofs.lemmas.Option.{get_or_from_slice_get, slice_get_within, slice_get-get_or}
use Rattle.filter_tree.specs.Datum.{Datum}
use Rattle.filter_tree.specs.Expr.{meaning, term_value}
use Rattle.filter_tree.specs.Logic.{or_of}
use Rattle.filter_tree.specs.declared.filter.Filter.{Filter}
use Rattle.filter_tree.specs.declared.tri.Tri.{Tri}
use Rattle.filter_tree.specs.declared.tri.Tri.TheVariants.{True, False, Null}
use Rattle.filter_memo.specs.Bits.{Adds, Joins, IsNothing}
use Rattle.filter_memo.specs.Intervals.{AreAlike, IsBetween}
use Rattle.filter_memo.specs.Buckets.{IsBucket}
use Rattle.filter_memo.specs.declared.interval.Interval.{Interval}
use Rattle.filter_memo.specs.Telling.{part_at, has_number, numbered_value, TellsThese, Tells, numbers_in, numbers_of, numbers_at, IsSettled, IsCell, IsInterval, AreCells, AreEvaluated, Judges}
use Rattle.filter_memo.specs.declared.bucket.Bucket.{Bucket}
use Rattle.filter_memo.specs.declared.said.Said.{Said}
use Rattle.filter_memo.specs.declared.breakpoints.Breakpoints.{Breakpoints}
use Rattle.filter_memo.specs.declared.telling.Cell.{Cell}
use Rattle.filter_memo.specs.declared.telling.Cells.{Cells}

-- ---- a row's values

or_same : (tri : Tri) → or_of tri tri ≡ tri
or_same True = refl
or_same False = refl
or_same Null = refl

or_none : (tri : Tri) → or_of tri False ≡ tri
or_none True = refl
or_none False = refl
or_none Null = refl

none_or : (tri : Tri) → or_of False tri ≡ tri
none_or True = refl
none_or False = refl
none_or Null = refl

-- a value that one of two parts has, or both
in_parts : (p q : Bool) (tri : Tri)
    → or_of (if p then tri else False) (if q then tri else False) ≡ (if p || q then tri else False)
in_parts true true tri = or_same tri
in_parts true false tri = or_none tri
in_parts false true tri = none_or tri
in_parts false false tri = refl

module _ {A : _} (parts : List (Filter A)) (row : List Datum) where
  pub no_values : (said : Said) → IsNothing said → TellsThese parts [] row said
  no_values said nothing = record { each = λ number within. nothing.each number }

  one_more : (own : ℕ) (numbers : List ℕ) (number : ℕ)
      → (if number == own then or_of (numbered_value parts numbers row number) (meaning (part_at parts own) row)
      else numbered_value parts numbers row number) ≡ numbered_value parts (own ∷ numbers) row number
  one_more own numbers number =
      elim (cases_eq number own) [
        | inl same ↦
            let here : (number == own) ≡ true = eq-eqb number own same in
            let tri : meaning (part_at parts own) row ≡ meaning (part_at parts number) row =
            ap (λ (n : ℕ). meaning (part_at parts n) row) (sym same) in
            rw (here, tri) (in_parts (has_number numbers number) true (meaning (part_at parts number) row)
            ∙ either (has_number numbers number) (meaning (part_at parts number) row))
        | inr apart ↦ let no : (number == own) ≡ false = ne_eqb number own apart in rw no refl
      ] where
        either : (p : Bool) (tri : Tri) → (if p || true then tri else False) ≡ tri
        either true tri = refl
        either false tri = refl

  pub one_more_value : (own : ℕ) (numbers : List ℕ) (old new : Said) → TellsThese parts numbers row old
      → Adds old new own (meaning (part_at parts own) row) → TellsThese parts (own ∷ numbers) row new
  one_more_value own numbers old new values adds = record {
    each = λ number within.
        let before = values.each number within in
        adds.each number within
        ∙ ap (λ (tri : Tri). if number == own then or_of tri (meaning (part_at parts own) row) else tri) before
        ∙ one_more own numbers number;
  }

  pub both_values : (one other : List ℕ) (first second both : Said) → TellsThese parts one row first
      → TellsThese parts other row second → Joins first second both → TellsThese parts (one ++ other) row both
  both_values one other first second both values_one values_other joins = record {
    each = λ number within.
        let left = values_one.each number within in
        let right = values_other.each number within in
        let any : has_number (one ++ other) number ≡ (has_number one number || has_number other number) =
        list_any-append (λ own. number == own) one other in
        joins.each number ∙ (rw (left, right)
        (in_parts (has_number one number) (has_number other number) (meaning (part_at parts number) row))
        ∙ sym (ap (λ (p : Bool). if p then meaning (part_at parts number) row else False) any));
  }

-- ---- cells

pub cell_is : (cell : Cell) (term : ℕ) (bucket : Bucket) → cell.term ≡ term → cell.bucket ≡ bucket
    → cell ≡ record { term = term; bucket = bucket; said = cell.said }
cell_is cell term bucket p q =
    ap (λ (n : ℕ). record { term = n; bucket = cell.bucket; said = cell.said }) p
    ∙ ap (λ (at : Bucket). record { term = term; bucket = at; said = cell.said }) q

module _ {A : _} (parts : List (Filter A)) (all_breakpoints : List Breakpoints) (cells : Cells)
    (are : AreCells parts all_breakpoints cells)
    (row : List Datum) where
  -- a number without breakpoints
  pub no_breakpoints : (number : ℕ) (said : Said) → slice_get all_breakpoints number ≡ None → IsNothing said
      → Judges parts all_breakpoints cells (numbers_at all_breakpoints number) row said
  no_breakpoints number said none nothing = record {
    kept = are;
    values = subst (λ (numbers : List ℕ). TellsThese parts numbers row said) (sym (ap numbers_of none))
        (no_values parts row said nothing);
  }

  module _ (number : ℕ) (breakpoints : Breakpoints) (is : slice_get all_breakpoints number ≡ Some breakpoints)
      (bucket : Bucket)
      (at : IsBucket breakpoints.bounds.items (term_value breakpoints.term row) bucket) where
    -- values that a cell keeps
    pub kept_before : (index : ℕ) (said : Said)
        → slice_get cells.buckets.items index ≡ Some (Some (record { term = number; bucket = bucket; said = said }))
        → Judges parts all_breakpoints cells (numbers_at all_breakpoints number) row said
    kept_before index said found =
        let within : index < length cells.buckets.items =
        slice_get_within cells.buckets.items index (Some (record { term = number; bucket = bucket; said = said }))
        found in
        let held : get_or cells.buckets.items index None
        ≡ Some (record { term = number; bucket = bucket; said = said }) =
        get_or_from_slice_get cells.buckets.items index (Some (record { term = number; bucket = bucket; said = said }))
        None found in
        let cell : IsCell parts all_breakpoints (Some (record { term = number; bucket = bucket; said = said })) =
        subst (IsCell parts all_breakpoints) held
        (All-get_or (IsCell parts all_breakpoints) cells.buckets.items index None within are.buckets) in
        record {
          kept = are;
          values = subst (λ (numbers : List ℕ). TellsThese parts numbers row said) (sym (ap numbers_of is))
              (cell breakpoints row is at);
        }

    pub new_cell : (said : Said) → TellsThese parts breakpoints.numbers.items row said
        → IsCell parts all_breakpoints (Some (record { term = number; bucket = bucket; said = said }))
    new_cell said values other later found at_later =
        let same : other ≡ breakpoints = cc in
        let settled : IsSettled parts breakpoints =
        subst (IsSettled parts) (get_or_from_slice_get all_breakpoints number breakpoints breakpoints is)
        (All-get_or (IsSettled parts) all_breakpoints number breakpoints
        (slice_get_within all_breakpoints number breakpoints is) are.settled) in
        subst (λ (s : Breakpoints). TellsThese parts s.numbers.items later said) (sym same)
        (settled.same row later bucket said at
        (subst (λ (s : Breakpoints). IsBucket s.bounds.items (term_value s.term later) bucket) same at_later) values)

  module _ (number : ℕ) (breakpoints : Breakpoints) (is : slice_get all_breakpoints number ≡ Some breakpoints) where
    -- values that no cell keeps
    pub not_kept : (said : Said) → TellsThese parts breakpoints.numbers.items row said
        → Judges parts all_breakpoints cells (numbers_at all_breakpoints number) row said
    not_kept said values = record {
      kept = are;
      values = subst (λ (numbers : List ℕ). TellsThese parts numbers row said) (sym (ap numbers_of is)) values;
    }

    -- values that a new cell keeps
    pub kept_now : (said : Said) (new : Cells) → TellsThese parts breakpoints.numbers.items row said
        → All (IsCell parts all_breakpoints) new.buckets.items
        → All (IsInterval parts all_breakpoints) new.intervals.items
        → Judges parts all_breakpoints new (numbers_at all_breakpoints number) row said
    kept_now said new values buckets intervals = record {
      kept = record { settled = are.settled; buckets = buckets; intervals = intervals };
      values = subst (λ (numbers : List ℕ). TellsThese parts numbers row said) (sym (ap numbers_of is)) values;
    }

    -- values that an interval keeps
    pub interval_before : (index : ℕ) (interval : Interval) → slice_get cells.intervals.items index ≡ Some interval
        → interval.term ≡ number → IsBetween (term_value breakpoints.term row) interval.low interval.high
        → Judges parts all_breakpoints cells (numbers_at all_breakpoints number) row interval.said
    interval_before index interval found own within =
        let here : index < length cells.intervals.items =
        slice_get_within cells.intervals.items index interval found in
        let held : IsInterval parts all_breakpoints interval =
        subst (IsInterval parts all_breakpoints)
        (get_or_from_slice_get cells.intervals.items index interval interval found)
        (All-get_or (IsInterval parts all_breakpoints) cells.intervals.items index interval here are.intervals) in
        record {
          kept = are;
          values = subst (λ (numbers : List ℕ). TellsThese parts numbers row interval.said) (sym (ap numbers_of is))
              (held.tells breakpoints row (ap (slice_get all_breakpoints) own ∙ is) within);
        }

    pub new_interval : (interval : Interval) → interval.term ≡ number
        → AreAlike breakpoints.bounds.items interval.low interval.high
        → IsBetween (term_value breakpoints.term row) interval.low interval.high
        → TellsThese parts breakpoints.numbers.items row interval.said → IsInterval parts all_breakpoints interval
    new_interval interval own alike within values = record {
      tells = λ other later found within_later.
          let held : slice_get all_breakpoints number ≡ Some other = ap (slice_get all_breakpoints) (sym own) ∙ found in
          let same : other ≡ breakpoints = cc in
          let settled : IsSettled parts breakpoints =
          subst (IsSettled parts) (get_or_from_slice_get all_breakpoints number breakpoints breakpoints is)
          (All-get_or (IsSettled parts) all_breakpoints number breakpoints
          (slice_get_within all_breakpoints number breakpoints is) are.settled) in
          subst (λ (s : Breakpoints). TellsThese parts s.numbers.items later interval.said) (sym same)
          (settled.alike row later interval.low interval.high interval.said alike within
          (subst (λ (s : Breakpoints). IsBetween (term_value s.term later) interval.low interval.high) same
          within_later) values);
    }

-- ---- the breakpoints of all terms

pub evaluated_by_one : (breakpoints : Breakpoints) (all : List Breakpoints) (number : ℕ)
    → has_number (numbers_in (breakpoints ∷ all)) number
    ≡ (has_number breakpoints.numbers.items number || has_number (numbers_in all) number)
evaluated_by_one breakpoints all number =
    list_any-append (λ own. number == own) breakpoints.numbers.items (numbers_in all)

-- the numbers of the breakpoints of one more term
pub numbers_more : (all : List Breakpoints) (at : ℕ) → at < length all
    → numbers_in (take (at + 1) all) ≡ numbers_in (take at all) ++ numbers_at all at
numbers_more all at within =
    elim all as (λ (own : List Breakpoints). own ≡ all → numbers_in (take (at + 1) all)
    ≡ numbers_in (take at all) ++ numbers_at all at) [
      | [] ↦ λ none. absurd (omega (arith, within, sym (ap length none)))
      | breakpoints ∷ others ↦ λ some.
          let item : slice_get all at ≡ Some (get_or all at breakpoints) = slice_get-get_or all at breakpoints within in
          ap numbers_in (take_more all at breakpoints within)
          ∙ (flat_map-append (λ own. own.numbers.items) (take at all) (get_or all at breakpoints ∷ [])
          ∙ ap (λ (numbers : List ℕ). numbers_in (take at all) ++ numbers) (append-nil _ ∙ sym (ap numbers_of item)))
    ] refl

-- breakpoints that evaluate each filter have the values of all filters
pub tells_all : {A : _} (parts : List (Filter A)) (all_breakpoints : List Breakpoints) (row : List Datum) (said : Said)
    → AreEvaluated all_breakpoints (length parts) → TellsThese parts (numbers_in all_breakpoints) row said
    → Tells parts row said
tells_all parts all_breakpoints row said are values = record {
  each = λ number within low.
      let has = are.each number within in
      values.each number low ∙ rw has refl;
}

pub evaluated_as : (one other : List Breakpoints) (few many : ℕ) → one ≡ other → few ≡ many → AreEvaluated one few
    → AreEvaluated other many
evaluated_as one other few many p q are =
    subst (λ (count : ℕ). AreEvaluated other count) q
    (subst (λ (all : List Breakpoints). AreEvaluated all few) p are)
