-- A test whether two codes are the same.
-- Assumes nothing.
use Prim.Native.Nat.{ℕ}
use mathlib.Core.Path.{◌≡◌, refl, sym, ◌∙◌, ap}
use mathlib.Core.Bool.{Bool, true}
use mathlib.Core.List.{[], ◌∷◌}
use lib.Dec.{eqb}
use lib.ListN.{get_or}
use borrow.Author.Tests.{eqb-true}
use Rattle.dependence.specs.declared.Compared.{Compared}
use Rattle.dependence.specs.declared.Compared.TheVariants.{Never, OneMailbox, ListedReceive, ListedSend, OneMutex, ListedMutex, Always}

abbrev number : Compared → ℕ
number Never = 0
number OneMailbox = 1
number ListedReceive = 2
number ListedSend = 3
number OneMutex = 4
number ListedMutex = 5
number Always = 6

numbered : ℕ → Compared
numbered n = get_or (Never ∷ OneMailbox ∷ ListedReceive ∷ ListedSend ∷ OneMutex ∷ ListedMutex ∷ []) n Always

back : (c : Compared) → numbered (number c) ≡ c
unfolding numbered
back Never = refl
back OneMailbox = refl
back ListedReceive = refl
back ListedSend = refl
back OneMutex = refl
back ListedMutex = refl
back Always = refl

abbrev pub same_code : Compared → Compared → Bool
same_code c d = eqb (number c) (number d)

pub same_code-true : (c d : Compared) → same_code c d ≡ true → c ≡ d
same_code-true c d t = sym (back c) ∙ ap numbered (eqb-true (number c) (number d) t) ∙ back d
