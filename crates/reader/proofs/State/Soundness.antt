-- Soundness as facts on the bytes held: a sound reader holds at most `longest + 3`, and they make a sound state.
-- Assumes nothing.
use Prim.Native.Nat.{ℕ, zero, suc, ◌+◌, ◌≤◌, ◌<◌}
use native.Mathlib.Omega.{arith}
use mathlib.Core.Path.{◌≡◌, refl}
use mathlib.Core.Bool.{true, false, ◌&&◌, ◌||◌}
use mathlib.Core.List.{List, [], ◌∷◌, ◌++◌}
use lib.Dec.{eqb, leb, eqb-suc-zero}
use lib.ListN.{length, get_or, take, length-take}
use borrow.Author.Tests.{leb-true, le-leb}
use Rattle.standard.specs.declared.Framing.{Framing}
use Rattle.standard.specs.declared.Framing.TheVariants.{Binary, Ascii}
use Rattle.standard.specs.declared.Escapes.{Escapes}
use Rattle.standard.specs.Messages.{longest, length_ok}
use Rattle.standard.proofs.Messages.{both_true, length_ok_lem}
use Rattle.reader.specs.declared.Mode.{Mode}
use Rattle.reader.specs.declared.Mode.TheVariants.{Skipping, Open, Escape, Digit}
use Rattle.reader.specs.declared.Reader.{Reader}
use Rattle.reader.specs.Step.{beyond_length, pending_ok, sound_with}
use Rattle.reader.specs.Read.{sound_reader}

-- none held, or first a length L, and at most L + beyond in all
abbrev pub Few : ℕ → List ℕ → Type 0
Few beyond [] = Unit {0}
Few beyond (L ∷ rest) = (length_ok L ≡ true) × (length rest < L + beyond)

-- what soundness says
abbrev pub Fits : Mode → List ℕ → Type 0
Fits m held = Few (beyond_length m) held × (pending_ok m ≡ true)

beyond_le : (m : Mode) → beyond_length m ≤ 3
beyond_le (Skipping Binary) = omega arith
beyond_le (Skipping Ascii) = omega arith
beyond_le (Open Binary) = omega arith
beyond_le (Open Ascii) = omega arith
beyond_le Escape = omega arith
beyond_le (Digit d) = omega arith

-- n bytes held, the first of them L
sound_pending : (m : Mode) (n L : ℕ) → sound_with m n L ≡ true → pending_ok m ≡ true
sound_pending m n L h = (both_true (eqb n 0 || length_ok L && leb n (L + beyond_length m)) (pending_ok m) h).1

sound_sized : (m : Mode) (n L : ℕ) → sound_with m (suc n) L ≡ true → (length_ok L ≡ true) × (n < L + beyond_length m)
sound_sized m n L h =
    let x = both_true (eqb (suc n) 0 || length_ok L && leb (suc n) (L + beyond_length m)) (pending_ok m) h in
    let y = both_true (length_ok L) (leb (suc n) (L + beyond_length m)) (rw (eqb-suc-zero n) at x.0) in
    (y.0, leb-true (suc n) (L + beyond_length m) y.1)

-- n bytes held, the first of a list
front_fits : (m : Mode) (n : ℕ) (bytes : List ℕ) → sound_with m n (get_or bytes 0 0) ≡ true → Fits m (take n bytes)
front_fits m zero bytes h = (tt, h)
front_fits m (suc n) [] h = (tt, sound_pending m (suc n) 0 h)
front_fits m (suc n) (L ∷ rest) h =
    let z = sound_sized m n L h in
    let fewer : length (take n rest) < L + beyond_length m = omega (arith, length-take n rest, z.1) in
    ((z.0, fewer), sound_pending m (suc n) L h)

-- the bytes held of a sound reader, however long its array
pub reader_fits : (r : Reader) → sound_reader r ≡ true → Fits r.mode (take r.held r.bytes)
reader_fits r h = front_fits r.mode r.held r.bytes h

-- bytes held that a list begins with
pub fits_sound : (m : Mode) (held more : List ℕ) → Fits m held
    → sound_with m (length held) (get_or (held ++ more) 0 0) ≡ true
fits_sound m [] more k = k.1
fits_sound m (L ∷ rest) more k =
    rw (eqb-suc-zero (length rest), k.0.0, le-leb (suc (length rest)) (L + beyond_length m) k.0.1, k.1)

bounded : (m : Mode) (n L : ℕ) → (length_ok L ≡ true) × (n < L + beyond_length m) → suc n ≤ longest + 3
bounded m n L k = omega (arith, k.1, (length_ok_lem L k.0).few, beyond_le m)

pub few_held : (m : Mode) (held : List ℕ) → Fits m held → length held ≤ longest + 3
few_held m [] k = omega arith
few_held m (L ∷ rest) k = bounded m (length rest) L k.0

number_held : (m : Mode) (n L : ℕ) → sound_with m n L ≡ true → n ≤ longest + 3
number_held m zero L h = omega arith
number_held m (suc n) L h = bounded m n L (sound_sized m n L h)

-- a sound reader's bytes fit into its array
pub sound_held : (r : Reader) → sound_reader r ≡ true → r.held ≤ longest + 3
sound_held r h = number_held r.mode r.held (get_or r.bytes 0 0) h

-- "The reader holds up to 258 recovered bytes": in ASCII, where the stop is due then. With a digit pending, and in
-- binary, it is one fewer
pub up_to_258 : (r : Reader) → sound_reader r ≡ true → r.held ≤ 258
up_to_258 = sound_held

pub holds_258 : sound_with (Open Ascii) 258 255 ≡ true
holds_258 = refl

pub no_258_binary : (sound_with (Open Binary) 257 255 ≡ true) × (sound_with (Open Binary) 258 255 ≡ false)
no_258_binary = (refl, refl)

pub no_258_digit : (d : ℕ) → sound_with (Digit d) 258 255 ≡ false
no_258_digit d = refl

-- ---- what no stream shows

-- between frames a reader that holds bytes, as none met does, is sound where one in a frame is
pub sound_between : (f : Framing) (n L : ℕ) → sound_with (Skipping f) n L ≡ sound_with (Open f) n L
sound_between Binary n L = refl
sound_between Ascii n L = refl

-- and an array without bytes holds none
pub sound_empty : (rule : Escapes) (m : Mode) (n : ℕ)
    → sound_reader (record { mode = m; held = suc n; bytes = []; escapes = rule }) ≡ false
sound_empty rule m n = rw (eqb-suc-zero n)

-- SOUNDNESS DOES NOT DEPEND ON THE RULE of escapes
pub sound_any_rule : (rule : Escapes) (r : Reader)
    → sound_reader (record { mode = r.mode; held = r.held; bytes = r.bytes; escapes = rule }) ≡ sound_reader r
sound_any_rule rule r = refl
