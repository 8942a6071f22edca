-- The keywords that the grammar names: PostgreSQL 15, "SQL Syntax", 4.1.1 Identifiers and Key Words, and "SQL Key
-- Words" (Appendix C).
use Rattle.std.specs.Prelude.{ℕ, Bool, true, false, List, Option, Some, None, codes, if◌then◌else◌}
use Rattle.std.specs.Str.{str_eq_ignore_ascii_case}
use denote.Enum.Bare.{sameb}
use Rattle.sql_reader.specs.contracts.word.Keyword.{the_type}
use Rattle.sql_reader.specs.declared.word.Keyword.{Keyword}
use Rattle.sql_reader.specs.declared.word.Keyword.TheVariants as k

-- the reserved words from ALL to ISNULL
unfoldable pub early_keyword : List ℕ → Option Keyword
early_keyword word =
    if str_eq_ignore_ascii_case word (codes "all") then Some k.All else
    if str_eq_ignore_ascii_case word (codes "and") then Some k.And else
    if str_eq_ignore_ascii_case word (codes "check") then Some k.Check else
    if str_eq_ignore_ascii_case word (codes "constraint") then Some k.Constraint else
    if str_eq_ignore_ascii_case word (codes "create") then Some k.Create else
    if str_eq_ignore_ascii_case word (codes "default") then Some k.Default else
    if str_eq_ignore_ascii_case word (codes "distinct") then Some k.Distinct else
    if str_eq_ignore_ascii_case word (codes "false") then Some k.False else
    if str_eq_ignore_ascii_case word (codes "for") then Some k.For else
    if str_eq_ignore_ascii_case word (codes "foreign") then Some k.Foreign else
    if str_eq_ignore_ascii_case word (codes "from") then Some k.From else
    if str_eq_ignore_ascii_case word (codes "in") then Some k.In else
    if str_eq_ignore_ascii_case word (codes "is") then Some k.Is else
    if str_eq_ignore_ascii_case word (codes "isnull") then Some k.IsNull else
    None

-- the reserved words from NOT to WITH
unfoldable pub late_keyword : List ℕ → Option Keyword
late_keyword word =
    if str_eq_ignore_ascii_case word (codes "not") then Some k.Not else
    if str_eq_ignore_ascii_case word (codes "notnull") then Some k.NotNull else
    if str_eq_ignore_ascii_case word (codes "null") then Some k.Null else
    if str_eq_ignore_ascii_case word (codes "on") then Some k.On else
    if str_eq_ignore_ascii_case word (codes "only") then Some k.Only else
    if str_eq_ignore_ascii_case word (codes "or") then Some k.Or else
    if str_eq_ignore_ascii_case word (codes "primary") then Some k.Primary else
    if str_eq_ignore_ascii_case word (codes "references") then Some k.References else
    if str_eq_ignore_ascii_case word (codes "table") then Some k.Table else
    if str_eq_ignore_ascii_case word (codes "true") then Some k.True else
    if str_eq_ignore_ascii_case word (codes "unique") then Some k.Unique else
    if str_eq_ignore_ascii_case word (codes "using") then Some k.Using else
    if str_eq_ignore_ascii_case word (codes "where") then Some k.Where else
    if str_eq_ignore_ascii_case word (codes "with") then Some k.With else
    None

-- the keywords from ALTER to KEY that may also be names
unfoldable pub early_free_keyword : List ℕ → Option Keyword
early_free_keyword word =
    if str_eq_ignore_ascii_case word (codes "alter") then Some k.Alter else
    if str_eq_ignore_ascii_case word (codes "asymmetric") then Some k.Asymmetric else
    if str_eq_ignore_ascii_case word (codes "between") then Some k.Between else
    if str_eq_ignore_ascii_case word (codes "case") then Some k.Case else
    if str_eq_ignore_ascii_case word (codes "connection") then Some k.Connection else
    if str_eq_ignore_ascii_case word (codes "current_schema") then Some k.CurrentSchema else
    if str_eq_ignore_ascii_case word (codes "full") then Some k.Full else
    if str_eq_ignore_ascii_case word (codes "identity") then Some k.Identity else
    if str_eq_ignore_ascii_case word (codes "if") then Some k.If else
    if str_eq_ignore_ascii_case word (codes "ilike") then Some k.Ilike else
    if str_eq_ignore_ascii_case word (codes "index") then Some k.Index else
    if str_eq_ignore_ascii_case word (codes "inherits") then Some k.Inherits else
    if str_eq_ignore_ascii_case word (codes "key") then Some k.Key else
    None

-- the keywords from LIKE to UNKNOWN that may also be names
unfoldable pub late_free_keyword : List ℕ → Option Keyword
late_free_keyword word =
    if str_eq_ignore_ascii_case word (codes "like") then Some k.Like else
    if str_eq_ignore_ascii_case word (codes "nothing") then Some k.Nothing else
    if str_eq_ignore_ascii_case word (codes "partition") then Some k.Partition else
    if str_eq_ignore_ascii_case word (codes "publication") then Some k.Publication else
    if str_eq_ignore_ascii_case word (codes "replica") then Some k.Replica else
    if str_eq_ignore_ascii_case word (codes "schema") then Some k.Schema else
    if str_eq_ignore_ascii_case word (codes "similar") then Some k.Similar else
    if str_eq_ignore_ascii_case word (codes "subscription") then Some k.Subscription else
    if str_eq_ignore_ascii_case word (codes "symmetric") then Some k.Symmetric else
    if str_eq_ignore_ascii_case word (codes "tables") then Some k.Tables else
    if str_eq_ignore_ascii_case word (codes "text") then Some k.Text else
    if str_eq_ignore_ascii_case word (codes "unknown") then Some k.Unknown else
    None

abbrev pub or_keyword : Option Keyword → Option Keyword → Option Keyword
or_keyword (Some keyword) other = Some keyword
or_keyword None other = other

-- the keyword that a word spells, in upper or lower case
unfoldable pub keyword_of : List ℕ → Option Keyword
keyword_of word = or_keyword (early_keyword word)
    (or_keyword (late_keyword word) (or_keyword (early_free_keyword word) (late_free_keyword word)))

-- whether a keyword cannot be an unquoted name
abbrev pub is_reserved : Keyword → Bool
is_reserved k.Alter = false
is_reserved k.Asymmetric = false
is_reserved k.Between = false
is_reserved k.Case = false
is_reserved k.Connection = false
is_reserved k.CurrentSchema = false
is_reserved k.Full = false
is_reserved k.Identity = false
is_reserved k.If = false
is_reserved k.Ilike = false
is_reserved k.Index = false
is_reserved k.Inherits = false
is_reserved k.Key = false
is_reserved k.Like = false
is_reserved k.Nothing = false
is_reserved k.Partition = false
is_reserved k.Publication = false
is_reserved k.Replica = false
is_reserved k.Schema = false
is_reserved k.Similar = false
is_reserved k.Subscription = false
is_reserved k.Symmetric = false
is_reserved k.Tables = false
is_reserved k.Text = false
is_reserved k.Unknown = false
is_reserved _ = true

-- equal keywords
abbrev pub same_keyword : Keyword → Keyword → Bool
same_keyword = sameb the_type
