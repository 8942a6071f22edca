-- The verdict over a sharding is written.
use Rattle.std.proofs.Common.{◌≡◌, ◌∙◌, ℕ, Bool, List, [], ◌∷◌, ◌++◌, Option, Some, None, ap, append_assoc, refl, sym, codes}
use Rattle.std.specs.Prelude.{Result, Ok, IfOk, IfErr, OnOk}
use Rattle.std.specs.Io.KnownBytes.{Appends}
use Rattle.catalog_text.specs.CatalogText.{catalog_text}
use Rattle.catalog_text.specs.FilterText.{text_if}
use Rattle.filter_tree.specs.Expr.{Expr}
use Rattle.pub_catalog.specs.Catalogs.{CatalogOf}
use Rattle.pub_reader.specs.Statements.{catalog_by}
use Rattle.replica_identity.specs.Plans.{plan_of}
use Rattle.shard_checker.specs.CatalogTruth.{ShardingIsWrong}
use Rattle.shard_checker.specs.Sound.{IsSound}
use Rattle.shard_checker.specs.Texts.{text_fault, trees_in}
use Rattle.shard_checker.specs.declared.error.CheckError.{CheckError}
use Rattle.sql_reader.specs.Written.{as_filter}
use Rattle.commands.proofs.Writing.{line_ends, text_of-one}
use Rattle.commands.specs.Verdicts.{IsFirstRefusal}
use Rattle.commands.specs.Refusals.{refused_line}
use Rattle.commands.specs.Output.{StopsText, ended, text_of}
use Rattle.commands.specs.Parts.{CutOnce, lines_of, two_parts}
use Rattle.commands.specs.Check.Checking.{EndsCheck, IsCheck, IsCheckFault}
use Rattle.commands.specs.declared.failure.Failure.{Failure}
use Rattle.commands.specs.declared.failure.Status.{Status}
use Rattle.commands.specs.declared.failure.Status.TheVariants.{Done, Refused}

-- a text and a line after it, as one line, are the text and then the lines of the verdict
after : (text line : List ℕ) → text_of ((text ++ line) ∷ []) ≡ text ++ text_of (line ∷ [])
after text line =
    text_of-one (text ++ line) ∙ append_assoc text line (10 ∷ [])
    ∙ ap (λ (bytes : List ℕ). text ++ bytes) (sym (text_of-one line))

module _ (shows : Bool) (input : List ℕ) (cut : CutOnce) (catalog : CatalogOf Expr) (parts : two_parts input ≡ Some cut)
    (reads : catalog_by as_filter cut.part ≡ Ok catalog) (certificates : text_fault 1 (lines_of cut.rest) ≡ None)
    (text : List ℕ) (shown : text ≡ text_if shows (catalog_text catalog))
  where
    pub accepted : (old new : Option (List ℕ)) (result : Result Status Failure) → IsSound catalog
        → IsFirstRefusal catalog (trees_in (lines_of cut.rest)) None → IfOk result (λ s. s ≡ Done)
        → OnOk result (Appends old new (ended (text ++ codes "accepted")))
        → IfErr result (StopsText (ended (text ++ codes "accepted")) old new) → EndsCheck shows input old new result
    accepted old new result sound unrefused same appends stops =
        line_ends (IsCheck shows input) (λ lines. lines ≡ []) (IsCheckFault input) refl (text ++ codes "accepted") Done
        old new result
        (record {
          cut = cut;
          catalog = catalog;
          parts = parts;
          reads = reads;
          certificates = certificates;
          verdict_lines = codes "accepted" ∷ [];
          verdict =
              record { sound = sound; unrefused = unrefused; are = refl };
          text = after text (codes "accepted")
              ∙ ap (λ (bytes : List ℕ). bytes ++ text_of (codes "accepted" ∷ [])) shown;
        })
        same appends stops

    pub refused : (error : CheckError) (old new : Option (List ℕ)) (result : Result Status Failure)
        → IsFirstRefusal catalog (trees_in (lines_of cut.rest)) (Some error)
        → ShardingIsWrong catalog (plan_of catalog) (trees_in (lines_of cut.rest)) error
        → IfOk result (λ s. s ≡ Refused)
        → OnOk result (Appends old new (ended (text ++ refused_line catalog error)))
        → IfErr result (StopsText (ended (text ++ refused_line catalog error)) old new)
        → EndsCheck shows input old new result
    refused error old new result refusal wrong same appends stops =
        line_ends (IsCheck shows input) (λ lines. lines ≡ []) (IsCheckFault input) refl
        (text ++ refused_line catalog error)
        Refused old new result
        (record {
          cut = cut;
          catalog = catalog;
          parts = parts;
          reads = reads;
          certificates = certificates;
          verdict_lines = refused_line catalog error ∷ [];
          verdict =
              record { error = error; refusal = refusal; wrong = wrong; are = refl };
          text = after text (refused_line catalog error)
              ∙ ap (λ (bytes : List ℕ). bytes ++ text_of (refused_line catalog error ∷ [])) shown;
        })
        same appends stops
