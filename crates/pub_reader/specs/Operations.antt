-- The list of operations that a publication publishes: PostgreSQL 15, SQL Commands, CREATE PUBLICATION, the parameter
-- "publish".
use Rattle.std.specs.Prelude.{ℕ, suc, ◌-◌, Bool, true, false, not, ◌==◌, if◌then◌else◌, List, [], ◌∷◌, length, take, drop, Option, Some, None, codes}
use Rattle.std.specs.Borrow.{Bor}
use Rattle.std.specs.List.{prefix_len, suffix_len}
use Rattle.std.specs.Char.{is_ascii_whitespace}
use Rattle.std.specs.Str.{str_eq_ignore_ascii_case}
use Rattle.pub_catalog.specs.declared.catalog.Operations.{Operations}

abbrev pub no_operation : Operations
no_operation = record { insert = false; update = false; delete = false; truncate = false }

-- a text without the white space at its start, and without the white space at its end
abbrev pub start_trimmed : List ℕ → List ℕ
start_trimmed text = drop (prefix_len is_ascii_whitespace text) text

abbrev pub end_trimmed : List ℕ → List ℕ
end_trimmed text = take (length text - suffix_len is_ascii_whitespace text) text

unfoldable pub trimmed : List ℕ → List ℕ
trimmed text = end_trimmed (start_trimmed text)

abbrev pub before_first : ℕ → List (List ℕ) → List (List ℕ)
before_first byte [] = []
before_first byte (part ∷ parts) = (byte ∷ part) ∷ parts

-- the parts of a text between commas
abbrev pub parts : List ℕ → List (List ℕ)
parts [] = [] ∷ []
parts (byte ∷ text) = if byte == 44 then [] ∷ parts text else before_first byte (parts text)

abbrev pub is_part_byte : ℕ → Bool
is_part_byte byte = not (byte == 44)

-- the parts of what follows a comma, if there is one
abbrev pub parts_after : Option (Bor (List ℕ)) → List (List ℕ)
parts_after None = []
parts_after (Some text) = parts text.now

abbrev pub rest_length : Option (Bor (List ℕ)) → ℕ
rest_length None = 0
rest_length (Some text) = suc (length text.now)

-- one more operation, in upper or lower case
unfoldable pub with_operation : Operations → List ℕ → Option Operations
with_operation listed word =
    if str_eq_ignore_ascii_case word (codes "insert") then Some (record listed { insert = true }) else
    if str_eq_ignore_ascii_case word (codes "update") then Some (record listed { update = true }) else
    if str_eq_ignore_ascii_case word (codes "delete") then Some (record listed { delete = true }) else
    if str_eq_ignore_ascii_case word (codes "truncate") then Some (record listed { truncate = true }) else
    None

-- each word must name an operation
abbrev pub all_listed : Option Operations → List (List ℕ) → Option Operations
all_listed None words = None
all_listed (Some listed) [] = Some listed
all_listed (Some listed) (word ∷ words) = all_listed (with_operation listed (trimmed word)) words

-- the operations of a list; a text of only white space has none
unfoldable pub operations : List ℕ → Option Operations
operations text = if length (trimmed text) == 0 then Some no_operation else all_listed (Some no_operation) (parts text)
