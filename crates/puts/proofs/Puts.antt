-- Laws of `Puts`: what functions have done that put one part after another. Assumes nothing.
use Prim.Native.Nat.{ℕ, ◌+◌, ◌≤◌}
use native.Mathlib.Omega.{arith}
use mathlib.Core.Path.{◌≡◌, refl, ap, ◌∙◌}
use mathlib.Core.List.{List, [], ◌++◌}
use lib.ListN.{length, length-append}
use Rattle.standard.specs.Words.{Put, laid}
use Rattle.standard.proofs.Put.{put_none, put_then, put_length, put_laid, fits_put}
use Rattle.puts.specs.declared.Out.{Out}
use Rattle.puts.specs.Out.{PutsIfFits, Puts}

pub puts_none : (o : Out) → Puts o [] o
puts_none o = record { same_reference = refl; put = λ _. put_none _ _ }

-- a part alone
pub puts_part : {o o' : Out} {part : List ℕ} → PutsIfFits o part o' → Puts o part o'
puts_part p = record { same_reference = p.same_reference; put = λ fit. fits_put p.put fit }

-- what is put after what was put
pub puts_then : {o o' o'' : Out} {a b : List ℕ} → Puts o a o' → Puts o' b o'' → Puts o (a ++ b) o''
puts_then {o} {o'} {o''} {a} {b} p q = record {
  same_reference = q.same_reference ∙ p.same_reference;
  put = λ fit.
      let long = length-append a b in
      let first = p.put (omega arith) in
      put_then first (q.put (omega (arith, first.end, put_length first)));
}

-- what is put from the beginning of a buffer that has room for it, when the buffer comes back
pub puts_laid : {o o' : Out} {part buffer after : List ℕ} {end : ℕ} → o.buffer.now ≡ buffer → o.place ≡ 0 → Puts o part o'
    → after ≡ o'.buffer.now
    → end ≡ o'.place
    → length part ≤ length buffer
    → (end ≡ length part) × (after ≡ laid buffer 0 part)
puts_laid {o} {o'} {part} {buffer} whole first p is ends fit =
    let fits : 0 + length part ≤ length buffer = omega arith in
    let all = p.put (omega (arith, ap length whole)) in
    let put : Put buffer 0 part o'.buffer.now o'.place = rw (whole, first) at all in
    (omega (arith, put.end), is ∙ put_laid put fits)
