use Rattle.std.proofs.Common.{◌≡◌, ℕ, ◌/◌, ◌%◌, List, [], ◌++◌, Result, Ok, Err, IfOk, is_ok, if◌then◌else◌, sym, ap, ◌∙◌, append_assoc, append-nil}
use Rattle.std.specs.Char.{digit_char, encode_utf8}
use Rattle.std.specs.String.{string_bytes}
use Rattle.cedar_expressions.proofs.escape.push_numbered.Goals as goal

-- what stands behind a piece stands behind what the piece was added to
behind : (x w q r : List ℕ) → x ≡ w ++ q → x ++ r ≡ w ++ (q ++ r)
behind x w q r e = ap (λ t. t ++ r) e ∙ append_assoc w q r

at_end : {A E : Type 0} (r : Result A E) (y x q z : List ℕ) → y ≡ (if is_ok r then x ++ q else x) → x ++ (q ++ []) ≡ z → IfOk r (λ _. y ≡ z)
at_end (Ok a) y x q z e f = e ∙ ap (λ t. x ++ t) (sym (append-nil q)) ∙ f
at_end (Err a) y x q z e f = tt

pub returns : goal.returns
returns c =
    let end = encode_utf8 125 ++ [] in
    let fourth = encode_utf8 (digit_char (c.args.c % 16)) ++ end in
    let third = encode_utf8 (digit_char (c.args.c / 16 % 16)) ++ fourth in
    let second = encode_utf8 (digit_char (c.args.c / 16 / 16 % 16)) ++ third in
    let first = encode_utf8 (digit_char (c.args.c / 16 / 16 / 16)) ++ second in
    at_end c.push-8.result (string_bytes c.push-8.new.self) (string_bytes c.push-7.new.self) (encode_utf8 125) (string_bytes c.args.out.now ++ (encode_utf8 92 ++ (encode_utf8 117 ++ (encode_utf8 123 ++ first)))) c.push-8.ensures.bytes
    (behind (string_bytes c.push-7.new.self) (string_bytes c.push-6.new.self) (encode_utf8 (digit_char (c.args.c % 16))) end (c.in_ok-push-7.ensures.bytes ∙ ap (λ d. string_bytes c.push-6.new.self ++ encode_utf8 d) c.hex_digit-4.ensures)
    ∙ behind (string_bytes c.push-6.new.self) (string_bytes c.push-5.new.self) (encode_utf8 (digit_char (c.args.c / 16 % 16))) fourth (c.in_ok-push-6.ensures.bytes ∙ ap (λ d. string_bytes c.push-5.new.self ++ encode_utf8 d) c.hex_digit-3.ensures)
    ∙ behind (string_bytes c.push-5.new.self) (string_bytes c.push-4.new.self) (encode_utf8 (digit_char (c.args.c / 16 / 16 % 16))) third (c.in_ok-push-5.ensures.bytes ∙ ap (λ d. string_bytes c.push-4.new.self ++ encode_utf8 d) c.hex_digit-2.ensures)
    ∙ behind (string_bytes c.push-4.new.self) (string_bytes c.push-3.new.self) (encode_utf8 (digit_char (c.args.c / 16 / 16 / 16))) second (c.in_ok-push-4.ensures.bytes ∙ ap (λ d. string_bytes c.push-3.new.self ++ encode_utf8 d) c.hex_digit.ensures)
    ∙ behind (string_bytes c.push-3.new.self) (string_bytes c.push-2.new.self) (encode_utf8 123) first c.in_ok-push-3.ensures.bytes
    ∙ behind (string_bytes c.push-2.new.self) (string_bytes c.push.new.self) (encode_utf8 117) (encode_utf8 123 ++ first) c.in_ok-push-2.ensures.bytes
    ∙ behind (string_bytes c.push.new.self) (string_bytes c.args.out.now) (encode_utf8 92) (encode_utf8 117 ++ (encode_utf8 123 ++ first)) c.in_ok-push.ensures.bytes)
