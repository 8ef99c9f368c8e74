-- The vectors of source document 000 for the Mercury 206 with address 1234: its three requests, and the reply to the third, which says 50.50 Hz.
-- Document 02, CR 1: "The source's 81 hex request ends F9 01; the 09 01 under it is a slip. Its two replies that both end A5 FB are no vectors."
-- Proof: `vectors`, proofs/Claims.antt, computed.
use Rattle.std.specs.Prelude.{◌≡◌, List, [], ◌∷◌, ℕ, Ok}
use Rattle.mercury.specs.Reply.{decoded_of}
use Rattle.mercury.specs.Request.{request_frame}
use Rattle.mercury.specs.declared.reply.Decoded.TheVariants.{Frequency}

-- "00 00 04 D2 81 50 50 3A 00 00 00 00 00 00 CC A4"
abbrev pub frequency_reply : List ℕ
frequency_reply = 0 ∷ 0 ∷ 0x04 ∷ 0xD2 ∷ 0x81 ∷ 0x50 ∷ 0x50 ∷ 0x3A ∷ 0 ∷ 0 ∷ 0 ∷ 0 ∷ 0 ∷ 0 ∷ 0xCC ∷ 0xA4 ∷ []

pub record Vectors : Type 0 where
  pub tariffs : request_frame 1234 0x27 ≡ 0 ∷ 0 ∷ 0x04 ∷ 0xD2 ∷ 0x27 ∷ 0x79 ∷ 0x7B ∷ []
  pub load : request_frame 1234 0x63 ≡ 0 ∷ 0 ∷ 0x04 ∷ 0xD2 ∷ 0x63 ∷ 0x79 ∷ 0x48 ∷ []
  pub frequency : request_frame 1234 0x81 ≡ 0 ∷ 0 ∷ 0x04 ∷ 0xD2 ∷ 0x81 ∷ 0xF9 ∷ 0x01 ∷ []
  pub reply : decoded_of 1234 0x81 frequency_reply
      ≡ Ok (Frequency (record { frequency = record { 0 = 5050 }; rest = record { 0 = 0x3A; 1 = 0; 2 = 0; 3 = 0; 4 = 0; 5 = 0; 6 = 0 } }))
