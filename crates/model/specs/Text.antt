-- Text as ASCII codes: words, numbers in decimal, columns and lines.
-- Assumes nothing: these are definitions.
use Rattle.std.specs.Prelude.{ℕ, zero, suc, ◌+◌, ◌-◌, ◌/◌, ◌%◌, List, [], ◌∷◌, ◌++◌, length, replicate}
use Prim.Native.Char.{code}
use Prim.Native.String.{String, [] as end, ◌∷◌ as ◌then◌}

-- the codes of a quoted text
abbrev pub ascii : String → List ℕ
ascii end = []
ascii (c then text) = code c ∷ ascii text

-- the digit of a number below 10
abbrev pub digit : ℕ → ℕ
digit n = 48 + n

-- the digits of a number, none for 0, at most so many of them
abbrev pub digits : ℕ → ℕ → List ℕ
digits zero n = []
digits (suc most) zero = []
digits (suc most) (suc n) = digits most (suc n / 10) ++ (digit (suc n % 10) ∷ [])

-- a number in decimal, without leading zeros: the digits of its tens, which are at most n, and its last digit
abbrev pub decimal : ℕ → List ℕ
decimal n = digits n (n / 10) ++ (digit (n % 10) ∷ [])

abbrev pub space : ℕ
space = 32

-- a text in so many columns, at their left or at their right; one that is longer stays whole
abbrev pub left : (columns : ℕ) → List ℕ → List ℕ
left columns text = text ++ replicate (columns - length text) space

abbrev pub right : (columns : ℕ) → List ℕ → List ℕ
right columns text = replicate (columns - length text) space ++ text

abbrev pub line_feed : ℕ
line_feed = 10

-- "Each line ends in a line feed"
abbrev pub line : List ℕ → List ℕ
line text = text ++ (line_feed ∷ [])
