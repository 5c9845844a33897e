-- Each arm has its number, and with it the message's rule. That a mask says what the rule says of single bits is computed
-- for all 256 bytes. Assumes nothing.
use Rattle.std.proofs.Common.{◌≡◌, ℕ, ◌<◌, ◌&&◌, not, eqb, get_or, sym, ◌∙◌, rules, arith, bit_and}
use Rattle.standard.specs.Messages.{clear}
use Rattle.standard.proofs.Tables.{alike}
use Rattle.standard.proofs.Messages.{values_reply, values_request, values_command}
use Rattle.messages.proofs.location_ok.Goals as goal

reply_mask : (b : ℕ) → b < 256 → eqb (bit_and b 0xA0) 0 ≡ (clear 5 b && clear 7 b)
reply_mask = alike (λ b. eqb (bit_and b 0xA0) 0) (λ b. clear 5 b && clear 7 b) 256 tt

request_mask : (b : ℕ) → b < 256 → eqb (bit_and b 0xB0) 0 ≡ (clear 4 b && clear 5 b && clear 7 b)
request_mask = alike (λ b. eqb (bit_and b 0xB0) 0) (λ b. clear 4 b && clear 5 b && clear 7 b) 256 tt

command_mask : (b : ℕ) → b < 256 → eqb (bit_and b 0xA0) 0x20 ≡ (not (clear 5 b) && clear 7 b)
command_mask = alike (λ b. eqb (bit_and b 0xA0) 0x20) (λ b. not (clear 5 b) && clear 7 b) 256 tt

pub returns-in-16 : goal.returns-in-16
returns-in-16 c =
    let m = c.args.message.now in
    reply_mask (get_or m 2 0) (omega (arith, c.type_inv.message 2)) ∙ sym (values_reply m c.args.number c.in-16.is)

pub returns-in-48 : goal.returns-in-48
returns-in-48 c =
    let m = c.args.message.now in
    request_mask (get_or m 2 0) (omega (arith, c.type_inv.message 2)) ∙ sym (values_request m c.args.number c.in-48.is)

pub returns-in_default : goal.returns-in_default
returns-in_default c =
    let m = c.args.message.now in
    let last : c.args.number ≡ 0x31 = search rules in
    command_mask (get_or m 2 0) (omega (arith, c.type_inv.message 2)) ∙ sym (values_command m c.args.number last)
