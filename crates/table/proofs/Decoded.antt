-- Decoding: what the kind says, and what stands past the end of a file.
-- Assumes nothing.
use mathlib.Core.Path.{◌≡◌, refl, ◌∙◌, ap, sym}
use mathlib.Core.List.{List}
use Prim.Native.Nat.{ℕ, suc, ◌+◌, ◌-◌, ◌≤◌}
use native.Mathlib.Omega.{arith}
use lib.ListN.{length, get_or-eq_default}
use Rattle.table.specs.declared.Action.TheVariants.{Note}
use Rattle.table.specs.Format.{byte_at, word_at, kind_at, p_at}
use Rattle.table.specs.Decode.{decode_as, decode}

pub byte_past : (b : List ℕ) (i : ℕ) → length b ≤ i → byte_at b i ≡ 0
byte_past b i h = get_or-eq_default b 0 {n = i} h

pub word-past : (b : List ℕ) (i : ℕ) → length b ≤ i → word_at b i ≡ 0
word-past b i h = omega (arith, byte_past b i h, byte_past b (i + 1) (omega arith))

-- the kind is known
pub of-kind : (b : List ℕ) (at kind : ℕ) → kind_at b at ≡ kind → decode_as kind b at ≡ decode b at
of-kind b at kind e = ap (λ (k : ℕ). decode_as k b at) (sym e)

-- a kind above 11 decodes as the last kind
from-eleven : (b : List ℕ) (at k : ℕ) → decode_as (suc (suc (suc (suc (suc (suc (suc (suc (suc (suc (suc k))))))))))) b at ≡ Note (p_at b at)
unfolding decode_as
from-eleven b at k = refl

pub last-kind : (b : List ℕ) (at kind : ℕ) → 11 ≤ kind → decode_as kind b at ≡ Note (p_at b at)
last-kind b at kind h =
    let k : ℕ = kind - 11 in
    let e : kind ≡ suc (suc (suc (suc (suc (suc (suc (suc (suc (suc (suc k)))))))))) = omega arith in
    ap (λ (n : ℕ). decode_as n b at) e ∙ from-eleven b at k
