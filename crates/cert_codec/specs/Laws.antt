-- What holds of the spellings of certificates.
use Rattle.std.specs.Prelude.{◌≡◌, ℕ, List, [], ◌++◌}
use Rattle.cert_codec.specs.Tree.{CertificateTree}
use Rattle.cert_codec.specs.Spelling.{spell, IsBuilt, IsShallow, Spells}

-- certificates that are spelled alike are the same
abbrev pub OneSpelling : Type 0
OneSpelling = (c d : CertificateTree) → IsBuilt c → IsShallow c → IsBuilt d → IsShallow d → spell c ≡ spell d → c ≡ d

-- a spelling followed by more bytes is none
abbrev pub NoProperPrefix : Type 0
NoProperPrefix = (a b : List ℕ) (c d : CertificateTree) → Spells a c → Spells (a ++ b) d → b ≡ []
