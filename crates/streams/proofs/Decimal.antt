-- A number's digits, as many as it takes, are the number in decimal.
use Rattle.std.proofs.Common.{◌≡◌, ℕ, zero, suc, ◌+◌, ◌-◌, ◌/◌, ◌%◌, ◌^◌, ◌<◌, ◌≤◌, [], ◌∷◌, ◌++◌, decimal, sym, ap, ◌∙◌, subst, arith, lit<}
use Rattle.std.proofs.Math.Nat.{one-le-pow, pow-suc}
use Rattle.std.proofs.lemmas.Bool.Decides.{nat_tests}
use Rattle.std.proofs.lemmas.Fmt.{decimal_digit, decimal_step}
use Rattle.io.specs.Digits.{last_digits, hex_digit_ascii, IsDigitCount}

digit_ascii : (d : ℕ) → d < 10 → hex_digit_ascii d ≡ 48 + d
digit_ascii d small = grind (arith, nat_tests)

-- A number of one digit more than another is ten times it, and up to nine.
at_least_ten : (k n : ℕ) → IsDigitCount 10 1 n (suc (suc k)) → 10 ^ suc k ≤ n
at_least_ten k n h =
    let same : suc (suc k) - 1 ≡ suc k = omega arith in
    subst (λ m. 10 ^ m ≤ n) same (h.2 (omega arith))

without_last : (k n : ℕ) → IsDigitCount 10 1 n (suc (suc k)) → IsDigitCount 10 1 (n / 10) (suc k)
without_last k n h =
    let low = at_least_ten k n h in
    let same : k ≡ suc k - 1 = omega arith in
    let tenth : 10 ^ k ≤ n / 10 = omega (arith, pow-suc 10 k, low) in
    (omega arith, omega (arith, pow-suc 10 (suc k), h.1), λ _. subst (λ m. 10 ^ m ≤ n / 10) same tenth)

pub digits_of_count : (k n : ℕ) → n < 2 ^ 64 → IsDigitCount 10 1 n k → last_digits 10 k n ≡ decimal n
digits_of_count zero n small h = absurd (omega (arith, h.0))
digits_of_count (suc zero) n small h =
    let below : n < 10 = omega (arith, h.1) in
    let itself : n % 10 ≡ n = omega arith in
    ap (λ d. d ∷ []) (digit_ascii (n % 10) (omega arith) ∙ ap (λ d. 48 + d) itself) ∙ sym (decimal_digit n below)
digits_of_count (suc (suc k)) n small h =
    let low = at_least_ten k n h in
    let some : 1 ≤ 10 ^ k = one-le-pow k 10 (lit< tt) in
    let more : 10 ≤ n = omega (arith, pow-suc 10 k) in
    let less : n / 10 < 2 ^ 64 = omega arith in
    let digit : n % 10 < 10 = omega arith in
    ap (λ l. l ++ (hex_digit_ascii (n % 10) ∷ [])) (digits_of_count (suc k) (n / 10) less (without_last k n h))
    ∙ ap (λ d. decimal (n / 10) ++ (d ∷ [])) (digit_ascii (n % 10) digit)
    ∙ sym (decimal_step n more small)
