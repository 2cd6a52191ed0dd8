-- G.764, section 3.2.5, and ISO 3309: the check sequence as a long division of polynomials, worked as on paper.
-- A polynomial is the list of its coefficients, zeros and ones, the highest power first: the order in which bits are sent.
use Rattle.std.specs.Prelude.{ℕ, zero, suc, ◌+◌, ◌-◌, ◌%◌, cond, List, [], ◌∷◌, ◌++◌, eqb, length, get_or, take, drop, replicate}
use Rattle.plain_check.specs.Bits.{octet_bits, number}

-- the bits of a message, octet by octet
unfoldable pub message_bits : List ℕ → List ℕ
message_bits [] = []
message_bits (octet ∷ octets) = octet_bits octet ++ message_bits octets

-- two polynomials with their first coefficients under each other, added modulo 2; what stands past the upper one stays
unfoldable pub added : List ℕ → List ℕ → List ℕ
added [] l = l
added (a ∷ upper) [] = []
added (a ∷ upper) (b ∷ l) = (a + b) % 2 ∷ added upper l

-- the first sixteen bits complemented: one is added to each
unfoldable pub complemented : List ℕ → List ℕ
complemented l = added (replicate 16 1) l

-- the message with sixteen zeros after it, and then the first sixteen bits of all these complemented
unfoldable pub dividend : List ℕ → List ℕ
dividend message = complemented (message_bits message ++ replicate 16 0)

-- the generator polynomial, x^16 + x^12 + x^5 + 1
unfoldable pub generator_polynomial : List ℕ
generator_polynomial = 1 ∷ 0 ∷ 0 ∷ 0 ∷ 1 ∷ 0 ∷ 0 ∷ 0 ∷ 0 ∷ 0 ∷ 0 ∷ 1 ∷ 0 ∷ 0 ∷ 0 ∷ 0 ∷ 1 ∷ []

-- where the leading bit is one, the generator polynomial is added
unfoldable pub reduced : List ℕ → List ℕ
reduced l = cond (eqb (get_or l 0 0) 1) (added generator_polynomial l) l

-- one line of the division: the leading bit, which is zero then, is dropped
unfoldable pub line : List ℕ → List ℕ
line l = drop 1 (reduced l)

unfoldable pub lines : ℕ → List ℕ → List ℕ
lines zero l = l
lines (suc n) l = lines n (line l)

-- line after line, while more than sixteen bits are left
unfoldable pub remainder : List ℕ → List ℕ
remainder l = lines (length l - 16) l

-- the sixteen bits that are sent after the message
unfoldable pub check_sequence : List ℕ → List ℕ
check_sequence message = complemented (remainder (dividend message))

-- and the two octets that carry them
unfoldable pub check_octets : List ℕ → List ℕ
check_octets message = number (take 8 (check_sequence message)) ∷ number (drop 8 (check_sequence message)) ∷ []
