-- Serves TraceText.antt.
-- Numbers that fit their types.
use Rattle.chip_trace.proofs.Names.{ℕ, ◌*◌, ◌^◌, ◌<◌, ◌≤◌, arith, mul-le-mul_left}

-- a product of two numbers of 64 bits has 128
pub product_fits : (a b : ℕ) → a < 2 ^ 64 → b < 2 ^ 64 → a * b < 2 ^ 128
product_fits a b p q =
    let x : a * b ≤ a * 2 ^ 64 = mul-le-mul_left a (let l : b ≤ 2 ^ 64 = omega arith in l) in
    omega arith
