-- Comments: PostgreSQL 15, "SQL Syntax", 4.1.5 Comments. Their lengths count what follows the two characters that
-- begin one.
use Rattle.std.specs.Prelude.{ℕ, ◌+◌, ◌-◌, Bool, ◌&&◌, ◌==◌, nat_lt, if◌then◌else◌, List, ◌∷◌, length, slice_index, Option, Some, None, option_map}
use Rattle.std.specs.List.{prefix_len}
use Rattle.sql_tokens.specs.declared.bytes.Class.TheVariants as class
use Rattle.sql_tokens.specs.Bytes.{is_in_class}

-- `n` more bytes
abbrev pub longer : ℕ → Option ℕ → Option ℕ
longer n = option_map (λ k. n + k)

-- two hyphens
abbrev pub begins_line_comment : List ℕ → Bool
begins_line_comment bytes = slice_index bytes 0 == 45 && slice_index bytes 1 == 45

-- a slash and an asterisk
abbrev pub begins_block_comment : List ℕ → Bool
begins_block_comment bytes = slice_index bytes 0 == 47 && slice_index bytes 1 == 42

-- a comment ends before the end of the line, and has no zero byte
abbrev pub line_comment : List ℕ → Option ℕ
line_comment bytes =
    let n = prefix_len (is_in_class class.LineByte) bytes in
    if nat_lt n (length bytes) && slice_index bytes n == 0 then None else Some n

-- A comment inside `depth` others ends with the asterisk and slash that close the outermost. It has no zero byte.
unfoldable pub block_comment : ℕ → List ℕ → Option ℕ
block_comment depth (b ∷ c ∷ bytes) =
    if b == 0 then None
    else (if b == 47 && c == 42 then longer 2 (block_comment (depth + 1) bytes)
    else (if b == 42 && c == 47 then (if depth == 0 then Some 2 else longer 2 (block_comment (depth - 1) bytes))
    else longer 1 (block_comment depth (c ∷ bytes))))
block_comment depth _ = None
