-- The rules that a playlist is held to line by line. Assumes nothing.
pub data Rule : Type 0 where
  ListThere : Rule
  ListSound : Rule
  NamesApart : Rule
  ServerQuoted : Rule
  UriLine : Rule
  IdLegal : Rule
  IdQuoted : Rule
  UriLegal : Rule
  IdKnown : Rule
