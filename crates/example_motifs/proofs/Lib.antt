mod Looked
