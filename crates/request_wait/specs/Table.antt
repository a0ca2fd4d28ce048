-- What stands first in each part of a request (RFC 4511, section 4).
use Rattle.std.specs.Prelude.{ℕ, zero, suc, ◌==◌, Option, Some, None, if◌then◌else◌}
use Rattle.request_wait.specs.declared.part.Part.{Part}
use Rattle.request_wait.specs.declared.part.Part.TheVariants as part
use Rattle.request_wait.specs.declared.part.Leaf.TheVariants as leaf
use Rattle.request_wait.specs.declared.part.Content.{Content}
use Rattle.request_wait.specs.declared.part.Content.TheVariants as content
use Rattle.request_wait.specs.declared.part.Form.{Form}
use Rattle.request_wait.specs.declared.part.Form.TheVariants as form
use Rattle.request_wait.specs.declared.part.Choice.{Choice}
use Rattle.request_wait.specs.declared.part.Choice.TheVariants as choice

abbrev pub octets : Content
octets = content.Leaf leaf.Octets

abbrev pub form_of : Part → Form
form_of part.Start = form.Start
form_of part.Request = form.One 0x02 (content.Leaf leaf.MessageId) part.Operation
form_of part.Operation = form.OneOf choice.Operation part.AfterOperation
form_of part.AfterOperation = form.Optional 0xa0 (content.Inner part.Controls) part.Unknown part.Unknown
form_of part.Unknown = form.Skipped
form_of part.End = form.Nothing
form_of part.Controls = form.Many 0x30 (content.Inner part.Control)
form_of part.Control = form.One 0x04 octets part.ControlCritical
form_of part.ControlCritical = form.Optional 0x01 (content.Leaf leaf.Boolean) part.ControlValue part.ControlValue
form_of part.ControlValue = form.Optional 0x04 octets part.Unknown part.Unknown
form_of part.Bind = form.One 0x02 (content.Leaf leaf.Int) part.BindName
form_of part.BindName = form.One 0x04 octets part.BindAuth
form_of part.BindAuth = form.OneOf choice.Auth part.Unknown
form_of part.Sasl = form.One 0x04 octets part.SaslCredentials
form_of part.SaslCredentials = form.Optional 0x04 octets part.End part.End
form_of part.Unbind = form.Empty
form_of part.Search = form.One 0x04 octets part.SearchScope
form_of part.SearchScope = form.One 0x0a (content.Leaf leaf.Int) part.SearchDeref
form_of part.SearchDeref = form.One 0x0a (content.Leaf leaf.Int) part.SearchSizeLimit
form_of part.SearchSizeLimit = form.One 0x02 (content.Leaf leaf.Count) part.SearchTimeLimit
form_of part.SearchTimeLimit = form.One 0x02 (content.Leaf leaf.Count) part.SearchTypesOnly
form_of part.SearchTypesOnly = form.One 0x01 (content.Leaf leaf.Boolean) part.SearchFilter
form_of part.SearchFilter = form.OneOf (choice.Filter 50) part.SearchAttributes
form_of part.SearchAttributes = form.One 0x30 (content.Inner part.Texts) part.Unknown
form_of (part.Filters levels) = form.ManyOf (choice.Filter levels)
form_of (part.Not levels) = form.OneOf (choice.Filter levels) part.End
form_of part.Substrings = form.One 0x04 octets part.SubstringsPieces
form_of part.SubstringsPieces = form.One 0x30 (content.Inner part.Pieces) part.End
form_of part.Pieces = form.Some part.InitialPiece
form_of part.InitialPiece = form.Optional 0x80 octets part.MiddlePieces part.MiddlePieces
form_of part.MiddlePieces = form.Optional 0x81 octets part.MiddlePieces part.FinalPiece
form_of part.FinalPiece = form.Optional 0x82 octets part.End part.End
form_of part.Modify = form.One 0x04 octets part.ModifyMods
form_of part.ModifyMods = form.One 0x30 (content.Inner part.Mods) part.Unknown
form_of part.Mods = form.Many 0x30 (content.Inner part.Mod)
form_of part.Mod = form.One 0x0a (content.Leaf leaf.Int) part.ModAttribute
form_of part.ModAttribute = form.One 0x30 (content.Inner part.Attribute) part.End
form_of part.Add = form.One 0x04 octets part.AddAttributes
form_of part.AddAttributes = form.One 0x30 (content.Inner part.Attributes) part.Unknown
form_of part.Attributes = form.Many 0x30 (content.Inner part.Attribute)
form_of part.Attribute = form.One 0x04 octets part.AttributeValues
form_of part.AttributeValues = form.One 0x31 (content.Inner part.Texts) part.End
form_of part.Texts = form.Many 0x04 octets
form_of part.Rename = form.One 0x04 octets part.RenameNewRdn
form_of part.RenameNewRdn = form.One 0x04 octets part.RenameDeleteOld
form_of part.RenameDeleteOld = form.One 0x01 (content.Leaf leaf.Boolean) part.RenameNewSuperior
form_of part.RenameNewSuperior = form.Optional 0x80 octets part.Unknown part.Unknown
form_of part.Compare = form.One 0x04 octets part.CompareAssertion
form_of part.CompareAssertion = form.One 0x30 (content.Inner part.Assertion) part.Unknown
form_of part.Assertion = form.One 0x04 octets part.AssertionValue
form_of part.AssertionValue = form.One 0x04 octets part.End
form_of part.Extended = form.One 0x80 octets part.ExtendedValue
form_of part.ExtendedValue = form.Optional 0x81 octets part.Unknown part.Unknown

unfoldable pub operation_content : ℕ → Option Content
operation_content tag =
    if tag == 0x60 then Some (content.Inner part.Bind)
    else if tag == 0x42 then Some (content.Inner part.Unbind)
    else if tag == 0x63 then Some (content.Inner part.Search)
    else if tag == 0x66 then Some (content.Inner part.Modify)
    else if tag == 0x68 then Some (content.Inner part.Add)
    else if tag == 0x4a then Some octets
    else if tag == 0x6c then Some (content.Inner part.Rename)
    else if tag == 0x6e then Some (content.Inner part.Compare)
    else if tag == 0x50 then Some (content.Leaf leaf.Count)
    else if tag == 0x77 then Some (content.Inner part.Extended)
    else None

unfoldable pub auth_content : ℕ → Option Content
auth_content tag =
    if tag == 0x80 then Some octets
    else if tag == 0xa3 then Some (content.Inner part.Sasl)
    else None

-- what a filter that has no filters inside has
unfoldable pub simple_content : ℕ → Option Content
simple_content tag =
    if tag == 0xa3 then Some (content.Inner part.Assertion)
    else if tag == 0xa4 then Some (content.Inner part.Substrings)
    else if tag == 0xa5 then Some (content.Inner part.Assertion)
    else if tag == 0xa6 then Some (content.Inner part.Assertion)
    else if tag == 0x87 then Some octets
    else if tag == 0xa8 then Some (content.Inner part.Assertion)
    else if tag == 0xa9 then Some octets
    else None

unfoldable pub filter_content : ℕ → ℕ → Option Content
filter_content zero tag = None
filter_content (suc levels) tag =
    if tag == 0xa0 then Some (content.Inner (part.Filters levels))
    else if tag == 0xa1 then Some (content.Inner (part.Filters levels))
    else if tag == 0xa2 then Some (content.Inner (part.Not levels))
    else simple_content tag

abbrev pub content_by : Choice → ℕ → Option Content
content_by choice.Operation tag = operation_content tag
content_by choice.Auth tag = auth_content tag
content_by (choice.Filter levels) tag = filter_content levels tag
