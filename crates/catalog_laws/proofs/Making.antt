-- What a rule of the grammar makes has a property, whatever tokens it is given.
use Rattle.std.proofs.Common.{Bool}
use Rattle.std.specs.Prelude.{Option, Result, Ok, Err}
use Rattle.sql_reader.specs.declared.item.Item.{Item}
use Rattle.sql_reader.specs.Items.{Items}
use Rattle.sql_reader.specs.Reading.{Fault, Rule, Verdict, ◌>>=◌, with_rest, pure, check, refuse, item_ahead}
use Rattle.sql_reader.specs.Repetitions.{repeat, link, each}
use Rattle.sql_reader.proofs.Keeping.{Gives, then-gives, any-gives, repeat-gives, link-gives, each-gives}

pub record Makes {A : Type 0} (P : A → Type 0) (rule : Rule A) : Type 0 where
  pub gives : (ts : Items) → Gives P (rule ts)

-- the same for a check
abbrev pub Says : {A : Type 0} → (A → Type 0) → Verdict A → Type 0
Says P (Ok a) = P a
Says P (Err fault) = Unit {0}

pub then-makes : {A B : Type 0} {Q : A → Type 0} {P : B → Type 0} {rule : Rule A} {more : A → Rule B} → Makes Q rule
    → ((a : A) → Q a → Makes P (more a)) → Makes P (rule >>= more)
then-makes {Q = Q} {P = P} {rule = rule} {more = more} first next =
    record { gives = λ ts. then-gives Q P (rule ts) more (first.gives ts) (λ a ts2 h. (next a h).gives ts2) }

pub any-makes : {A B : Type 0} {P : B → Type 0} (rule : Rule A) {more : A → Rule B} → ((a : A) → Makes P (more a))
    → Makes P (rule >>= more)
any-makes {P = P} rule {more = more} next =
    record { gives = λ ts. any-gives P (rule ts) more (λ a ts2. (next a).gives ts2) }

pub pure-makes : {A : Type 0} {P : A → Type 0} (a : A) → P a → Makes P (pure a)
pure-makes a h = record { gives = λ ts. h }

pub check-makes : {A : Type 0} {P : A → Type 0} (verdict : Verdict A) → Says P verdict → Makes P (check verdict)
check-makes {A} {P} verdict says = record { gives = λ ts. by_verdict verdict says ts }
  where
    by_verdict : (verdict : Verdict A) → Says P verdict → (ts : Items) → Gives P (with_rest verdict ts)
    by_verdict (Ok a) says ts = says
    by_verdict (Err fault) says ts = tt

pub refuse-makes : {A : Type 0} {P : A → Type 0} → Makes P refuse
refuse-makes = record { gives = λ ts. tt }

-- a rule that depends on the token ahead
pub by_item-makes : {A : Type 0} {P : A → Type 0} {rule : Option Item → Rule A}
    → ((item : Option Item) → Makes P (rule item)) → Makes P (λ ts. rule (item_ahead ts) ts)
by_item-makes all = record { gives = λ ts. (all (item_ahead ts)).gives ts }

-- ---- lists

pub list-makes : {S : Type 0} {P : S → Type 0} (separator : Item) (read : S → Rule S)
    → ((s : S) → P s → Makes P (read s)) → (s : S) → P s → Makes P (repeat (link separator read) s)
list-makes {P = P} separator read keeps s h = record {
  gives = λ ts. repeat-gives P (link separator read)
      (link-gives P separator read (λ s2 ts2 h2. (keeps s2 h2).gives ts2)) s ts h;
}

pub each-makes : {S : Type 0} {P : S → Type 0} (more : Items → Result Bool Fault) (read : S → Rule S)
    → ((s : S) → P s → Makes P (read s)) → (s : S) → P s → Makes P (repeat (each more read) s)
each-makes {P = P} more read keeps s h = record {
  gives = λ ts. repeat-gives P (each more read) (each-gives P more read (λ s2 ts2 h2. (keeps s2 h2).gives ts2)) s ts h;
}
