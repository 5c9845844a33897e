-- A frame in the pieces in which it is measured and put: start, length, message, two sums, stop. Assumes nothing.
use Prim.Native.Nat.{ℕ, suc, ◌+◌, ◌*◌, ◌≤◌, ◌<◌}
use native.Mathlib.Omega.{arith}
use mathlib.Core.Path.{◌≡◌, refl, sym, ap, ◌∙◌}
use mathlib.Core.List.{List, [], ◌∷◌, ◌++◌, flat_map, append_assoc, append-nil}
use lib.ListN.{length, get_or, set, take, drop, length-append, take-append-drop}
use lib.Seq.{take_all}
use Rattle.standard.specs.declared.Framing.{Framing}
use Rattle.standard.specs.declared.Sums.{Sums}
use Rattle.standard.specs.declared.Framing.TheVariants.{Ascii}
use Rattle.standard.specs.Words.{Put}
use Rattle.standard.specs.Sums.{sums_of}
use Rattle.standard.specs.Framing.{start_of, stop_of, coded, coding, frame_of}
use Rattle.standard.proofs.Sum.{stepped, sums_none, sums_more, sums_turn}
use Rattle.standard.proofs.Put.{put_one, put_then, put_length}
use Rattle.standard.proofs.Framings.{coding_append, coding_more, ascii_length}

pub coding_cons : (f : Framing) (b : ℕ) (bs : List ℕ) → coding f (b ∷ bs) ≡ coded f b ++ coding f bs
unfolding coding flat_map
coding_cons f b bs = refl

pub coding_none : (f : Framing) → coding f [] ≡ []
unfolding coding flat_map
coding_none f = refl

-- the turn of a loop that measures: one more byte
pub length_more : (f : Framing) (bs : List ℕ) (i : ℕ) → i < length bs
    → length (coding f (take i bs)) + length (coded f (get_or bs i 0)) ≡ length (coding f (take (i + 1) bs))
length_more f bs i h =
    sym (length-append (coding f (take i bs)) (coded f (get_or bs i 0))) ∙ ap length (coding_more f bs i h)

-- what some of the bytes are coded as is no longer than what all are
pub coding_part : (f : Framing) (bs : List ℕ) (i : ℕ) → length (coding f (take i bs)) ≤ length (coding f bs)
coding_part f bs i =
    let all : length (coding f bs) ≡ length (coding f (take i bs)) + length (coding f (drop i bs)) =
    ap (λ l. length (coding f l)) (sym (take-append-drop i bs))
    ∙ ap length (coding_append f (take i bs) (drop i bs))
    ∙ length-append (coding f (take i bs)) (coding f (drop i bs)) in
    omega arith

module _ (f : Framing) (m : List ℕ) where
  abbrev pub one : ℕ
  one = (sums_of (length m ∷ m)).one

  abbrev pub two : ℕ
  two = (sums_of (length m ∷ m)).two

  -- the frame up to each of its pieces
  abbrev pub to_length : List ℕ
  to_length = (start_of f ∷ []) ++ coded f (length m)

  abbrev pub to_message : List ℕ
  to_message = to_length ++ coding f m

  abbrev pub to_one : List ℕ
  to_one = to_message ++ coded f one

  abbrev pub to_two : List ℕ
  to_two = to_one ++ coded f two

  pub pieces : to_two ++ stop_of f ≡ frame_of f m
  unfolding frame_of
  pieces =
      let sums : coding f (one ∷ two ∷ []) ≡ coded f one ++ (coded f two ++ []) =
      coding_cons f one (two ∷ [])
      ∙ ap (λ l. coded f one ++ l) (coding_cons f two [] ∙ ap (λ l. coded f two ++ l) (coding_none f)) in
      let body : coding f (length m ∷ m ++ (one ∷ two ∷ []))
      ≡ coded f (length m) ++ (coding f m ++ (coded f one ++ (coded f two ++ []))) =
      coding_cons f (length m) (m ++ (one ∷ two ∷ []))
      ∙ ap (λ l. coded f (length m) ++ l)
      (coding_append f m (one ∷ two ∷ []) ∙ ap (λ l. coding f m ++ l) sums) in
      let put : coded f (length m) ++ coding f m ++ coded f one ++ coded f two
      ≡ coded f (length m) ++ (coding f m ++ (coded f one ++ (coded f two ++ []))) =
      append_assoc (coded f (length m) ++ coding f m) (coded f one) (coded f two)
      ∙ append_assoc (coded f (length m)) (coding f m) (coded f one ++ coded f two)
      ∙ ap (λ l. coded f (length m) ++ (coding f m ++ (coded f one ++ l))) (sym (append-nil (coded f two))) in
      ap (λ l. start_of f ∷ (l ++ stop_of f)) (put ∙ sym body)

  -- and up to byte i of the message
  abbrev pub to_byte : ℕ → List ℕ
  to_byte i = to_length ++ coding f (take i m)

  pub to_byte_none : to_byte 0 ≡ to_length
  to_byte_none = ap (λ l. to_length ++ l) (coding_none f) ∙ append-nil to_length

  pub to_byte_more : (i : ℕ) → i < length m → to_byte i ++ coded f (get_or m i 0) ≡ to_byte (i + 1)
  to_byte_more i h =
      append_assoc to_length (coding f (take i m)) (coded f (get_or m i 0))
      ∙ ap (λ l. to_length ++ l) (coding_more f m i h)

  pub to_byte_all : (i : ℕ) → length m ≤ i → to_byte i ≡ to_message
  to_byte_all i h = ap (λ l. to_length ++ coding f l) (take_all i m h)

  -- so its length is theirs
  pub pieces_length : length (frame_of f m)
      ≡ length (coded f (length m)) + length (coding f m) + length (coded f one) + length (coded f two)
      + (length (stop_of f) + 1)
  pieces_length =
      ap length (sym pieces)
      ∙ simp (length-append {A = ℕ}) (omega arith)

  -- where the frame fits, each piece fits behind those before it
  pub record Fits (n : ℕ) : Type 0 where
    pub size : length (start_of f ∷ []) + length (coded f (length m)) ≤ n
    pub byte : (i : ℕ) → i < length m → length (to_byte i) + length (coded f (get_or m i 0)) ≤ n
    pub sum1 : length to_message + length (coded f one) ≤ n
    pub sum2 : length to_one + length (coded f two) ≤ n
    pub stop : length to_two + length (stop_of f) ≤ n

  pub pieces_fit : (n : ℕ) → length (frame_of f m) ≤ n → Fits n
  pieces_fit n h =
      let all = pieces_length in
      record {
        size = omega arith;
        byte = λ i k.
            let more = length_more f m i k in
            let part = coding_part f m (i + 1) in
            simp (length-append {A = ℕ}) (omega arith);
        sum1 = simp (length-append {A = ℕ}) (omega arith);
        sum2 = simp (length-append {A = ℕ}) (omega arith);
        stop = simp (length-append {A = ℕ}) (omega arith);
      }

-- ASCII has two characters for each byte
pub ascii_size : (m : List ℕ) → length (frame_of Ascii m) ≡ 2 * length m + 8
ascii_size m = let all = pieces_length Ascii m in let message = ascii_length m in omega (arith, all, message)

-- the sums of the length byte
pub sums_first : (L : ℕ) → stepped (record { one = 0; two = 0 }) L ≡ sums_of (L ∷ [])
sums_first L = ap (λ s. stepped s L) (sym sums_none) ∙ sym (sums_more [] L)

-- and of one message byte more
pub sums_next : (L : ℕ) (m : List ℕ) (i : ℕ) → i < length m
    → stepped (sums_of (L ∷ take i m)) (get_or m i 0) ≡ sums_of (L ∷ take (i + 1) m)
sums_next L m i h =
    let places : suc i + 1 ≡ suc (i + 1) = omega arith in
    sums_turn (L ∷ m) (suc i) (omega arith) ∙ ap (λ k. sums_of (take k (L ∷ m))) places

-- a piece fits behind what was put, where both fit from the beginning on
pub next_fits : {l a l' : List ℕ} {n : ℕ} (b : List ℕ) → Put l 0 a l' n → length a + length b ≤ length l
    → n + length b ≤ length l'
next_fits {l} {a} {l'} {n} b p h = omega (arith, p.end, put_length p)

-- start and length byte
pub length_stands : {l l' : List ℕ} {x k : ℕ} (f : Framing) (m : List ℕ) → x ≡ start_of f
    → Put (set l 0 x) 1 (coded f (length m)) l' k → Put l 0 (to_byte f m 0) l' k
length_stands {l} {x = x} f m s q =
    let start : Put l 0 (start_of f ∷ []) (set l 0 x) 1 = rw (← s) (put_one l 0 x) in
    rw (to_byte_none f m) (put_then start q)

-- one message byte more
pub byte_stands : {l l' l'' : List ℕ} {n k : ℕ} (f : Framing) (m : List ℕ) (i : ℕ) → i < length m
    → Put l 0 (to_byte f m i) l' n
    → Put l' n (coded f (get_or m i 0)) l'' k
    → Put l 0 (to_byte f m (i + 1)) l'' k
byte_stands f m i h p q = rw (← to_byte_more f m i h) (put_then p q)

-- the turn of a loop that sums it
pub sums_loop : {s s' : Sums} (m : List ℕ) (i : ℕ) → i < length m → s' ≡ stepped s (get_or m i 0)
    → s ≡ sums_of (length m ∷ take i m) → s' ≡ sums_of (length m ∷ take (i + 1) m)
sums_loop m i h e p = e ∙ ap (λ s. stepped s (get_or m i 0)) p ∙ sums_next (length m) m i h

-- after the last one the message stands, and the sums are whole
pub message_stands : {l l' : List ℕ} {n : ℕ} (f : Framing) (m : List ℕ) (i : ℕ) → length m ≤ i
    → Put l 0 (to_byte f m i) l' n → Put l 0 (to_message f m) l' n
message_stands f m i h p = rw (← to_byte_all f m i h) p

pub sums_whole : {s : Sums} (m : List ℕ) (i : ℕ) → length m ≤ i → s ≡ sums_of (length m ∷ take i m)
    → s ≡ sums_of (length m ∷ m)
sums_whole m i h e = e ∙ ap (λ t. sums_of (length m ∷ t)) (take_all i m h)
