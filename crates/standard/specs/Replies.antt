-- Document 01, "What the host replies". Assumes nothing.
use Rattle.std.specs.Prelude.{ℕ, cond, ◌||◌, [], ◌∷◌, eqb}
use Rattle.standard.specs.declared.Reply.{Reply}
use Rattle.standard.specs.declared.Reply.TheVariants.{Nothing, Acknowledge, NegativeAcknowledge, Rejected}
use Rattle.standard.specs.Messages.{number_of, flag_of, recognised, among, within}

-- the message number of a reply; 0 is no message's number and stands for none
abbrev pub reply_number : Reply → ℕ
reply_number Nothing = 0
reply_number Acknowledge = 0x1D
reply_number NegativeAcknowledge = 0x1E
reply_number Rejected = 0x1F

-- "Good 1Ch to 1Fh: nothing, even with the flag set. Good 20h to 3Fh: 1Fh, as a host serves no requests. Every other
-- good message: 1Dh if its flag is set, else nothing."
abbrev pub good_reply : ℕ → ℕ
good_reply t =
    cond (within 0x1C (number_of t) 0x1F) 0
    (cond (within 0x20 (number_of t) 0x3F) 0x1F
    (cond (flag_of t) 0x1D 0))

-- "Verdicts 1 to 5 and 7: Negative Acknowledge 1Eh", and 15, by document 02, No. 5. "Verdicts 6 and 8: Rejected 1Fh,
-- flag set or not." Verdict 0: as above, for a number that is one of the 41. "Refusals 9 to 12, and any number not in
-- the table, get no reply."
unfoldable pub reply_of : ℕ → ℕ → ℕ
reply_of verdict t =
    cond (within 1 verdict 5 || among verdict (7 ∷ 15 ∷ [])) 0x1E
    (cond (among verdict (6 ∷ 8 ∷ [])) 0x1F
    (cond (eqb verdict 0) (cond (recognised t) (good_reply t) 0) 0))
